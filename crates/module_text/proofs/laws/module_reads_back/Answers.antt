use Rattle.module_text.proofs.RoundTrip.{module-back, tokens-back, text-back, same-text}
use Rattle.module_text.proofs.laws.module_reads_back.Goals as goal

pub returns-clause-text : goal.returns-clause-text
returns-clause-text c = text-back

pub returns-clause-tokens : goal.returns-clause-tokens
returns-clause-tokens c = tokens-back

pub returns-clause-as_module : goal.returns-clause-as_module
returns-clause-as_module c loaded m names formed ts end =
    module-back loaded m names formed ts end

pub returns-clause-same_text : goal.returns-clause-same_text
returns-clause-same_text c = same-text
