use Rattle.format_reader.proofs.step.refused.Goals as goal

pub returns : goal.returns
returns c = (c.place.ensures.some, c.place.ensures.place)
