-- The texts so far are known.
use Rattle.std.proofs.Common.{take}
use Rattle.rdlpp_c.specs.Knowing.{KnowsTexts}
use Rattle.rdlpp_c.proofs.knowing.asked_texts.Given as goal

abbrev pub invariant-loop-text : goal.invariant-loop-text
invariant-loop-text l = KnowsTexts (take l.text-index l.texts) l.sources
