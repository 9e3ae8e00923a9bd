use Rattle.rdlpp_texts.proofs.PlainRuns.{kept_is}
use Rattle.rdlpp_texts.proofs.kept.keeps_each.Goals as goal

pub returns-then-is_none : goal.returns-then-is_none
returns-then-is_none c = kept_is c.args.text.now c.memchr.result c.is_none.result c.memchr.ensures c.is_none.ensures c.if-is_none.true
