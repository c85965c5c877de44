-- What a call answers, taken further.
use Rattle.std.specs.declared.result.Result.{Result}
use Rattle.std.specs.declared.result.Result.TheVariants.{Ok, Err}
use Rattle.std.proofs.Common.{IfOk}

-- what follows from what is so of each answer is so of it
pub ok-map : {A E : Type 0} {P Q : A → Type 0} (r : Result A E) → ((a : A) → P a → Q a)
    → IfOk r P → IfOk r Q
ok-map (Ok a) f x = f a x
ok-map (Err e) f x = tt
