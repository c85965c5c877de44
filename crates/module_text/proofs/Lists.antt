-- Numbers of values that parts of a module define: all are below the bound that the types give.
use Rattle.std.proofs.Common.{◌≡◌, ℕ, ◌+◌, ◌<◌, ◌≤◌, List, ◌++◌, length, ◌∙◌, ap, arith, Contains}
use Rattle.std.proofs.lemmas.List.{length-append}
use Rattle.std.proofs.lemmas.List.Elements.{All-contains, All-from_recursion}
use Rattle.std.specs.List.{AllByRecursion, range_with_len}
use Rattle.attr_value.specs.Values.{Value}
use Rattle.ir_lexer.specs.Spelling.{Text}
use Rattle.ir_store.specs.Modules.{Blocks, no_ops, then_op, no_blocks, block, types_in}
use Rattle.ir_store.specs.Modules.{types_in_regions, types_in_blocks}
use Rattle.module_meaning.specs.WholeModules.{WholeModule, own_numbers, block_numbers}
use Rattle.module_meaning.proofs.Places.{all-joined}
use Rattle.module_text.proofs.Numbers.{range-below}

-- what is in the list has what all have
pub of-all : (P : ℕ → Type 0) (xs : List ℕ) (x : ℕ) → AllByRecursion P xs → Contains xs x → P x
of-all P xs x h has = All-contains P xs x (All-from_recursion P xs h) has

-- the numbers of operations
pub own-below : (n top : ℕ) (os : WholeModule) → n + length (types_in os) ≤ top
    → AllByRecursion (λ k. k < top) (own_numbers n os)
own-below n top no_ops l = tt
own-below n top (then_op head rs os) l =
    let all : length (types_in {N = Text} {V = Value} (then_op head rs os))
    ≡ length head.results + length (types_in_regions rs) + length (types_in os) =
    length-append (head.results ++ types_in_regions rs) (types_in os)
    ∙ ap (λ m. m + length (types_in os)) (length-append head.results (types_in_regions rs)) in
    all-joined (λ k. k < top) (range_with_len n (length head.results)) _
    (range-below n (length head.results) top (omega arith))
    (own-below (n + length head.results + length (types_in_regions rs)) top os (omega arith))

-- those of blocks
pub blocks-below : (n top : ℕ) (bs : Blocks Text Value) → n + length (types_in_blocks bs) ≤ top
    → AllByRecursion (λ k. k < top) (block_numbers n bs)
blocks-below n top no_blocks l = tt
blocks-below n top (block args os bs) l =
    let all : length (types_in_blocks {N = Text} {V = Value} (block args os bs))
    ≡ length args + length (types_in os) + length (types_in_blocks bs) =
    length-append (args ++ types_in os) (types_in_blocks bs)
    ∙ ap (λ m. m + length (types_in_blocks bs)) (length-append args (types_in os)) in
    all-joined (λ k. k < top) (range_with_len n (length args)) _
    (range-below n (length args) top (omega arith))
    (all-joined (λ k. k < top) (own_numbers (n + length args) os) _
    (own-below (n + length args) top os (omega arith))
    (blocks-below (n + length args + length (types_in os)) top bs (omega arith)))
