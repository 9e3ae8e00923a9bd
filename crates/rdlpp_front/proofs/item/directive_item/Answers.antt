use Rattle.std.proofs.Common.{refl}
use Rattle.rdlpp_scan.specs.declared.token.Directive.TheVariants.{Undef, Ifdef, Ifndef, Elsif, Include}
use Rattle.rdlpp_scan.specs.declared.token.Kind.TheVariants.{Name}
use Rattle.rdlpp_front.specs.Arguments.{IsClosedString, IsLead}
use Rattle.rdlpp_front.proofs.Insides.{given_here}
use Rattle.rdlpp_front.proofs.item.directive_item.Goals as goal

pub returns-in-Undef : goal.returns-in-Undef
returns-in-Undef c =
    (refl, given_here (IsLead Name) c.args.directive Undef c.args.held.now c.args.len c.name_after.result c.in-Undef.is c.requires.some c.requires.word c.requires.whole c.name_after.ensures)

pub returns-in-Ifdef : goal.returns-in-Ifdef
returns-in-Ifdef c =
    (refl, given_here (IsLead Name) c.args.directive Ifdef c.args.held.now c.args.len c.name_after-in-Ifdef.result c.in-Ifdef.is c.requires.some c.requires.word c.requires.whole c.name_after-in-Ifdef.ensures)

pub returns-in-Ifndef : goal.returns-in-Ifndef
returns-in-Ifndef c =
    (refl, given_here (IsLead Name) c.args.directive Ifndef c.args.held.now c.args.len c.name_after-in-Ifndef.result c.in-Ifndef.is c.requires.some c.requires.word c.requires.whole c.name_after-in-Ifndef.ensures)

pub returns-in-Elsif : goal.returns-in-Elsif
returns-in-Elsif c =
    (refl, given_here (IsLead Name) c.args.directive Elsif c.args.held.now c.args.len c.name_after-in-Elsif.result c.in-Elsif.is c.requires.some c.requires.word c.requires.whole c.name_after-in-Elsif.ensures)

pub returns-in-Include : goal.returns-in-Include
returns-in-Include c =
    (refl, given_here IsClosedString c.args.directive Include c.args.held.now c.args.len c.string_after.result c.in-Include.is c.requires.some c.requires.word c.requires.whole c.string_after.ensures)
