use Rattle.std.proofs.Common.{◌≡◌, ◌<◌, ℕ, arith, if◌then◌else◌}
use Rattle.rdlpp_usages.specs.Usages.{is_opened}
use Rattle.rdlpp_usages.specs.declared.expansion.Opening.{Opening}
use Rattle.rdlpp_usages.specs.declared.expansion.Opening.TheVariants.{Opened, Refused, Broken, Failed}
use Rattle.rdlpp_state.proofs.Soundness.{inner_facts, whole_usage}
use Rattle.rdlpp_state.proofs.Stores.{called_by}
use Rattle.rdlpp_state.proofs.UsageSteps.{used_file}
use Rattle.rdlpp_expand.proofs.engine.Engine.open_macro.Goals as goal

pub open_usage-opening-requires : goal.open_usage-opening-requires
open_usage-opening-requires g c = record {
  some = grind arith;
  held = grind arith;
  plain = grind arith;
  usage = grind arith;
  inside = grind arith;
  named = grind arith;
  closed = grind arith;
  room =
      let depth = c.facts.ensures.texts.depth_is in
      let range = c.facts.ensures.sound.in_range.depth.0 in
      omega arith;
}

-- a line that is one of two is below what both are
line_few : (opening : Opening) (line a b n : ℕ) → line ≡ (if is_opened opening then a else b) → a < n → b < n → line < n
line_few Opened line a b n is first second = rw is first
line_few (Refused kind) line a b n is first second = rw is second
line_few (Broken kind own) line a b n is first second = rw is second
line_few Failed line a b n is first second = rw is second

pub invariant_of-self : goal.invariant_of-self
invariant_of-self g c = grind (arith, inner_facts, whole_usage, used_file, line_few)

pub returns : goal.returns
returns g c = grind (arith, called_by)
