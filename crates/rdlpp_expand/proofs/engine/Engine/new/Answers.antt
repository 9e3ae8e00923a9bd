use Rattle.std.proofs.Common.{refl, arith}
use Rattle.rdlpp_define.specs.Table.{table_size}
use Rattle.rdlpp_read.specs.Buffer.{closed_buffer, unused_of}
use Rattle.rdlpp_state.specs.Engine.{is_open}
use Rattle.rdlpp_state.specs.Opening.{fresh_engine}
use Rattle.rdlpp_expand.proofs.engine.Engine.new.Goals as goal

pub invariant_of-result : goal.invariant_of-result
unfolding is_open table_size closed_buffer unused_of
invariant_of-result g c =
    rw (c.in-Ok.ensures, c.in-Ok-new.ensures, c.in-Ok-new-2.ensures, c.in-Ok-new-3.ensures) (record {
      sources = record {
        in_range = c.in_default.ensures.in_range;
        definition_bytes = refl;
        definitions = refl;
        size = omega arith;
        slots = refl;
        line_bytes = refl;
        lines = tt;
        conditions_of = record { limit = refl; few = omega arith; below = refl; own = λ n e. cc; counted = omega arith };
        open_ = λ o. cc;
        closed = λ o. refl;
      };
      texts = record { depth_is = refl; most_is = refl; sound = record { are_open = tt; are_inside = tt; are_kept = tt }; line = omega arith; closed = λ o. refl };
    })

pub new-requires-3 : goal.new-requires-3
new-requires-3 g c = c.in_default.ensures.in_range

pub returns : goal.returns
unfolding fresh_engine
returns g c = grind arith
