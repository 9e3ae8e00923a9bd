use Rattle.std.proofs.Common.{refl}
use Rattle.rdlpp_read.specs.Files.{inner_buffer}
use Rattle.rdlpp_usages.specs.declared.reading.CallRead.TheVariants as call
use Rattle.rdlpp_usages.specs.declared.expansion.Opening.TheVariants.{Refused, Broken, Failed}
use Rattle.rdlpp_usages.proofs.UsageOpens.{call_breaks, call_lacks, kept_call, kept_tells, leaves_none, read_usage, uses_call}
use Rattle.rdlpp_usages.proofs.expansion.open_call.Goals as goal

pub returns-in-Closed-clause-comes_to : goal.returns-in-Closed-clause-comes_to
returns-in-Closed-clause-comes_to g c =
    kept_tells _ _ _ c.args.table.now.macros c.args.usage.id c.args.usage.line _ c.read_call.new.store.bytes c.bind_kept.result c.bind_kept.new.texts _ _
    c.in-Closed.ensures.means c.bind_kept.ensures.binds

pub returns-in-Closed-clause-keeps : goal.returns-in-Closed-clause-keeps
returns-in-Closed-clause-keeps g c =
    kept_call _ _ _ c.args.table.now.macros c.args.usage.id c.args.usage.line _ c.read_call.new.store.bytes c.bind_kept.result c.bind_kept.new.texts _ _
    c.requires.plain c.in-Closed.ensures.reads c.bind_kept.ensures.binds

pub returns-in-Refused-clause-comes_to : goal.returns-in-Refused-clause-comes_to
returns-in-Refused-clause-comes_to g c =
    call_lacks _ _ _ c.args.table.now.macros c.args.usage.id c.read_call.new.store.bytes c.read_call.new.store.bytes c.in-Refused.kind c.args.texts.now.opens
    (inner_buffer c.args.files.now.include_stack) (inner_buffer c.read_call.new.files.include_stack) c.in-Refused.ensures.means

pub returns-in-Broken-clause-comes_to : goal.returns-in-Broken-clause-comes_to
returns-in-Broken-clause-comes_to g c =
    call_breaks _ _ _ c.args.table.now.macros c.args.usage.id c.read_call.new.store.bytes c.read_call.new.store.bytes c.in-Broken.kind c.in-Broken.own
    c.args.texts.now.opens (inner_buffer c.args.files.now.include_stack) (inner_buffer c.read_call.new.files.include_stack) c.in-Broken.ensures.means

pub returns-in-Refused-clause-opens : goal.returns-in-Refused-clause-opens
returns-in-Refused-clause-opens g c =
    leaves_none c.args.table.now.macros c.args.usage.id c.args.usage.line c.args.texts.now.line (Refused c.in-Refused.kind) _ _ refl refl c.requires.closed (read_usage c.in-Refused.kind c.in-Refused.ensures.fault) tt

pub returns-in-Broken-clause-opens : goal.returns-in-Broken-clause-opens
returns-in-Broken-clause-opens g c =
    leaves_none c.args.table.now.macros c.args.usage.id c.args.usage.line c.args.texts.now.line (Broken c.in-Broken.kind c.in-Broken.own) _ _ refl refl c.requires.closed (read_usage c.in-Broken.kind c.in-Broken.ensures.fault) c.in-Broken.ensures.line

pub returns-in-Failed-clause-opens : goal.returns-in-Failed-clause-opens
returns-in-Failed-clause-opens g c =
    leaves_none c.args.table.now.macros c.args.usage.id c.args.usage.line c.args.texts.now.line Failed _ _ refl refl c.requires.closed tt tt

pub returns-in-Closed-clause-uses : goal.returns-in-Closed-clause-uses
returns-in-Closed-clause-uses g c =
    uses_call _ _ _ _ call.Closed c.bind_kept.result _ _ c.in-Closed.ensures.reads (λ o. refl) (λ own e. absurd (cc))

pub returns-in-Refused-clause-uses : goal.returns-in-Refused-clause-uses
returns-in-Refused-clause-uses g c =
    uses_call _ _ _ _ (call.Refused c.in-Refused.kind) (Refused c.in-Refused.kind) _ _ c.in-Refused.ensures.reads (λ o. absurd (cc)) (λ own e. absurd (cc))

pub returns-in-Broken-clause-uses : goal.returns-in-Broken-clause-uses
returns-in-Broken-clause-uses g c =
    uses_call _ _ _ _ (call.Broken c.in-Broken.kind c.in-Broken.own) (Broken c.in-Broken.kind c.in-Broken.own) _ _ c.in-Broken.ensures.reads (λ o. absurd (cc)) (λ own e. cc)

pub returns-in-Failed-clause-uses : goal.returns-in-Failed-clause-uses
returns-in-Failed-clause-uses g c =
    uses_call _ _ _ _ call.Failed Failed _ _ c.in-Failed.ensures.reads (λ o. absurd (cc)) (λ own e. absurd (cc))
