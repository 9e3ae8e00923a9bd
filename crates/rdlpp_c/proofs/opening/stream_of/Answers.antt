use Rattle.std.proofs.Common.{ℕ, List, Err, Ok, ap, subst, sym, ◌∙◌}
use Rattle.rdlpp.specs.Opening.{Opens, OpensOutput}
use Rattle.rdlpp.specs.Preprocess.{given_by, output_of}
use Rattle.rdlpp_c.specs.Streaming.{owned_sources}
use Rattle.rdlpp_c.proofs.Outputs.{refused, streams}
use Rattle.rdlpp_c.specs.Reopening.{IsUnread}
use Rattle.rdlpp_c.proofs.Quiet.{opening_asks, quiet_opening}
use Rattle.rdlpp_c.proofs.opening.stream_of.Goals as goal

pub returns-in-Ok-new-clause-opens : goal.returns-in-Ok-new-clause-opens
returns-in-Ok-new-clause-opens c a are in_range =
    streams a c.args.owned c.in-Ok.reading _ are in_range
    (subst (λ (p : List ℕ). OpensOutput owned_sources (output_of owned_sources c.args.owned.options c.args.owned.sources p) (Ok c.in-Ok.reading)) c.as_str.ensures.value (c.in-Ok.ensures.output tt))
    (opening_asks c.args.owned.options.limits (given_by c.args.owned.options) c.args.owned.options.origins c.args.owned.sources _ c.in-Ok.reading c.in-Ok.ensures.opens.1)
    (quiet_opening c.args.owned.options.limits (given_by c.args.owned.options) c.args.owned.options.origins c.args.owned.sources _ c.in-Ok.reading c.in-Ok.ensures.opens.1)
    (ap (λ s. s.reading) c.in-Ok-new.ensures.ok ∙ c.of.ensures.reading) (ap (λ s. s.path) c.in-Ok-new.ensures.ok ∙ c.of.ensures.path) (ap (λ s. s.pieces) c.in-Ok-new.ensures.ok ∙ c.of.ensures.pieces)

pub returns-clause-opens : goal.returns-clause-opens
returns-clause-opens c a are in_range =
    refused a c.args.owned _ _ are in_range
    (subst (λ (p : List ℕ). Opens owned_sources c.args.owned.options c.args.owned.sources p (Err c.in-Err.fault)) c.as_str.ensures.value c.in-Err.ensures.opens)
    (ap (λ x. Err x) c.refused_answer.ensures)

pub returns-in-Ok-new-clause-unread : goal.returns-in-Ok-new-clause-unread
returns-in-Ok-new-clause-unread c = subst IsUnread (sym c.in-Ok-new.ensures.ok) c.of.ensures.unread
