use Rattle.std.proofs.Common.{not, refl, sym, ◌∙◌}
use Rattle.rdlpp_read.specs.Conditions.{progress_of}
use Rattle.rdlpp_read.proofs.ConditionStacks.{turn_else, turn_named, turn_refused, turn_taken}
use Rattle.rdlpp_read.proofs.conditions.branch_of.Goals as goal

pub returns-then-progress : goal.returns-then-progress
returns-then-progress c = turn_refused (progress_of c.args.progress.now) c.args.word c.if-progress.true

pub returns-then-is_else : goal.returns-then-is_else
returns-then-is_else c =
    turn_else (progress_of c.args.progress.now) c.args.word (not c.args.progress.now.taken) c.if-progress.false (sym c.is_else.ensures ∙ c.if-is_else.true) refl

pub returns-then-progress-2 : goal.returns-then-progress-2
returns-then-progress-2 c =
    turn_taken (progress_of c.args.progress.now) c.args.word c.if-progress.false (sym c.is_else.ensures ∙ c.if-is_else.false) c.if-progress-2.true

pub returns : goal.returns
returns c =
    turn_named (progress_of c.args.progress.now) c.args.word c.if-progress.false (sym c.is_else.ensures ∙ c.if-is_else.false) c.if-progress-2.false
