use Rattle.text_layout.proofs.layout.Layout+S+Page.out_of_memory.Goals as goal

pub returns-clause-lays : goal.returns-clause-lays
returns-clause-lays g c = λ marks. c.out_of_memory.ensures.lays marks _ _
