use Rattle.std.proofs.Common.{◌∙◌, ap, arith, Bool, sym, if◌then◌else◌}
use Rattle.rdlpp_texts.proofs.PlainRuns.{blank_class, comma_class, control_class, high_class, mark_class}
use Rattle.rdlpp_texts.specs.declared.plain_argument.ByteClass.TheVariants.{White, PlainArgument}
use Rattle.rdlpp_texts.proofs.plain_argument.byte_class.Goals as goal

pub returns-then-b-ge64 : goal.returns-then-b-ge64
returns-then-b-ge64 c = c.plain_argument_or_mark.ensures ∙ high_class c.args.level c.args.b c.is_plain_argument_letter.result c.if-b-ge64.true c.is_plain_argument_letter.ensures

pub returns-then-b-eq32 : goal.returns-then-b-eq32
returns-then-b-eq32 c = blank_class c.args.level c.args.b c.if-b-eq32.true

pub returns-then-is_white : goal.returns-then-is_white
returns-then-is_white c = ap (λ (w : Bool). if w then White else PlainArgument) (sym c.if-is_white.true ∙ c.is_white.ensures) ∙ control_class c.args.level c.args.b c.if-b-lt32.true

pub returns-else-is_white : goal.returns-else-is_white
returns-else-is_white c = ap (λ (w : Bool). if w then White else PlainArgument) (sym c.if-is_white.false ∙ c.is_white.ensures) ∙ control_class c.args.level c.args.b c.if-b-lt32.true

pub returns-then-b-eq44 : goal.returns-then-b-eq44
returns-then-b-eq44 c = c.plain_argument_or_mark-then-b-eq44.ensures ∙ comma_class c.args.level c.args.b c.if-b-eq44.true

pub returns-else-b-eq44 : goal.returns-else-b-eq44
returns-else-b-eq44 c =
    c.plain_argument_or_mark-else-b-eq44.ensures
    ∙ mark_class c.args.level c.args.b c.is_plain_argument_mark.result (omega (arith, c.if-b-ge64.false)) (omega (arith, c.if-b-lt32.false, c.if-b-eq32.false)) c.if-b-eq44.false c.is_plain_argument_mark.ensures
