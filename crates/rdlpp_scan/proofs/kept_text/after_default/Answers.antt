use Rattle.std.proofs.Common.{◌∙◌}
use Rattle.rdlpp_scan.proofs.SimpleDefaults.{after_rest, after_simple}
use Rattle.rdlpp_scan.proofs.kept_text.after_default.Goals as goal

pub returns-then-next-eq44-clause-value : goal.returns-then-next-eq44-clause-value
returns-then-next-eq44-clause-value c =
    after_simple c.args.bytes.now c.simple_bytes-len.result c.byte_at-next.result c.simple_bytes-len.ensures.value c.byte_at-next.ensures.value c.then-next-eq44.either

pub returns-clause-value : goal.returns-clause-value
returns-clause-value c =
    c.after_by_tokens.ensures.value ∙ after_rest c.args.bytes.now c.simple_bytes-len.result c.simple_bytes-len.ensures.value
