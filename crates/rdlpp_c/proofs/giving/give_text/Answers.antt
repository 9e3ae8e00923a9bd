use Rattle.std.proofs.Common.{◌∙◌, ◌++◌, ℕ, List, Some, ap, inl, subst}
use Rattle.rdlpp_source.specs.declared.asked.Standing.{Standing}
use Rattle.rdlpp_source.specs.declared.asked.Standing.TheVariants.{Text}
use Rattle.rdlpp_c.specs.Giving.{GivesStanding, LeavesParts}
use Rattle.rdlpp_c.specs.declared.stream.Stream.{Stream}
use Rattle.rdlpp_c.proofs.giving.give_text.Goals as goal

-- a give of which the parts were taken before
parted : (path : List ℕ) (standing : Standing) (before between after : Stream) (status : ℕ) → LeavesParts before between
    → GivesStanding path standing between after status → GivesStanding path standing before after status
parted path standing before between after status leaves gives =
    let given = subst (λ (s : Stream). GivesStanding path standing s after status) leaves.only gives in
    record { answer = given.answer; tells = given.tells; is = given.is; none = given.none; only = given.only }

pub returns-in-Ok : goal.returns-in-Ok
returns-in-Ok c = inl (
  Text c.in-Ok.shared,
  ap Some (c.in-Ok.ensures ∙ ap (λ (parts : List ℕ). parts ++ c.args.text.now) c.take_parts-parts.ensures.value),
  parted c.args.path.now _ _ _ _ _ c.take_parts-parts.ensures.leaves c.give.ensures,
)
