use Rattle.std.proofs.Common.{◌∙◌, ap}
use Rattle.std.specs.Prelude.{nat_eq, length}
use Rattle.format_reader.specs.Spelling.{goes_on_id}
use Rattle.format_reader.proofs.Bytes.{all-is}
use Rattle.format_reader.proofs.word.all_go_on.Goals as goal

pub returns : goal.returns
returns c = ap (λ n. nat_eq n (length c.args.text.now)) c.id_len.ensures.value ∙ all-is goes_on_id c.args.text.now
