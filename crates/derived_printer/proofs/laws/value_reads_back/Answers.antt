use Rattle.derived_printer.proofs.RoundTrip.{text-back, tokens-back, attr-back, type-back, plain-back, number-back, same-tokens, same-text}
use Rattle.derived_printer.proofs.laws.value_reads_back.Goals as goal

pub returns : goal.returns
returns c = record {
  text = text-back;
  tokens = tokens-back;
  as_attribute = attr-back;
  as_type = type-back;
  as_plain_type = plain-back;
  as_number = number-back;
  same_tokens = same-tokens;
  same_text = same-text;
}
