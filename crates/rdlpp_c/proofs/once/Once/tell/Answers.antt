use Rattle.std.proofs.Common.{◌≡◌, ◌++◌, Some, sym, ap, ◌∙◌, bytes_eq, if◌then◌else◌}
use Rattle.rdlpp_source.specs.declared.asked.Standing.TheVariants.{Text}
use Rattle.rdlpp_c.specs.Once.{is_other, mark_at, mark_of}
use Rattle.rdlpp_c.specs.declared.once.Mark.{Mark}
use Rattle.rdlpp_c.proofs.once.Once.tell.Goals as goal

pub returns-clause-gives : goal.returns-clause-gives
returns-clause-gives c =
    let marked : c.of-mark.result ≡ mark_of (c.args.parts.items ++ c.args.text.now)
    = c.of-mark.ensures ∙ ap mark_of (c.bytes.ensures ∙ c.in_ok-shared.ensures) in (
      sym c.is_open.ensures ∙ c.if-not-is_open.false,
      sym (c.is_other.ensures ∙ ap (λ (m : Mark). is_other (mark_at c.args.self.now c.args.path.now) m) marked) ∙ c.if-is_other.false,
      record {
        standing = Text c.in_ok-shared.shared;
        told = ap Some c.in_ok-shared.ensures;
        adds = c.in_ok-take.ensures.adds;
        marks = λ q. c.in_ok-take.ensures.marks q ∙ ap (λ (m : Mark). if bytes_eq q c.args.path.now then Some m else mark_at c.args.self.now q) marked;
        last = c.in_ok-take.ensures.last;
      },
    )
