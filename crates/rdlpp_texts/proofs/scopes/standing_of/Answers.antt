use Rattle.rdlpp_texts.proofs.Scoping.{standing-actual, standing-default}
use Rattle.rdlpp_texts.proofs.scopes.standing_of.Goals as goal

pub returns-then-end-gt0 : goal.returns-then-end-gt0
returns-then-end-gt0 c own parts p = standing-default _ _ _ _ _ _ c.args.range parts c.if-end-gt0.true c.default_len-end.ensures p

pub returns : goal.returns
returns c own parts p = standing-actual _ _ _ _ _ _ c.args.range parts c.if-end-gt0.false c.default_len-end.ensures p
