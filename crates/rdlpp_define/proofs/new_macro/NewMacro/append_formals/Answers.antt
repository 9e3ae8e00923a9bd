use Rattle.std.proofs.Common.{◌≡◌, ◌<◌, ◌++◌, ◌∙◌, List, unwrap_or, ap, sym, arith, sum_by, flat_map}
use Rattle.rdlpp_define.specs.Macros.{Formal, Macro, formal_bytes, formal_size, formals_of}
use Rattle.rdlpp_define.proofs.Drafts.{formals_told, has_formals, no_formals, plain_told}
use Rattle.rdlpp_define.proofs.new_macro.NewMacro.append_formals.Goals as goal

pub append_list-requires-clause-listed : goal.append_list-requires-clause-listed
append_list-requires-clause-listed c =
    let h : 0 < unwrap_or c.self.inside.arity 0 = omega (arith, c.unwrap_or.ensures, c.if-unwrap_or-gt0.true) in
    (has_formals _ _ _ c.self.invariant.listed h).is_read

pub append_list-requires-clause-room : goal.append_list-requires-clause-room
append_list-requires-clause-room c =
    let h : 0 < unwrap_or c.self.inside.arity 0 = omega (arith, c.unwrap_or.ensures, c.if-unwrap_or-gt0.true) in
    omega (arith, ap (λ (fs : List Formal). sum_by formal_size fs) (has_formals _ _ _ c.self.invariant.listed h).same, c.self.invariant.listed.size_is, c.requires.room, formals_told _ _ _ _ _ _ _ _ c.self.invariant c.self.view_is)

pub returns-then-unwrap_or-gt0-clause-items : goal.returns-then-unwrap_or-gt0-clause-items
returns-then-unwrap_or-gt0-clause-items c =
    let h : 0 < unwrap_or c.self.inside.arity 0 = omega (arith, c.unwrap_or.ensures, c.if-unwrap_or-gt0.true) in
    c.append_list.ensures.items
    ∙ (ap (λ (fs : List Formal). c.args.to.now.items ++ flat_map formal_bytes fs) (sym (has_formals _ _ _ c.self.invariant.listed h).same)
    ∙ ap (λ (m : Macro). c.args.to.now.items ++ flat_map formal_bytes (formals_of m)) c.self.view_is)

pub returns-then-unwrap_or-gt0-clause-plain : goal.returns-then-unwrap_or-gt0-clause-plain
returns-then-unwrap_or-gt0-clause-plain c = plain_told _ _ _ _ _ _ _ _ c.self.invariant c.self.view_is

pub returns-else-unwrap_or-gt0-clause-items : goal.returns-else-unwrap_or-gt0-clause-items
returns-else-unwrap_or-gt0-clause-items c =
    let z : unwrap_or c.self.inside.arity 0 ≡ 0 = omega (arith, c.unwrap_or.ensures, c.if-unwrap_or-gt0.false) in
    no_formals _ _ _ _ c.self.invariant.listed z ∙ ap (λ (m : Macro). c.args.to.now.items ++ flat_map formal_bytes (formals_of m)) c.self.view_is

pub returns-else-unwrap_or-gt0-clause-plain : goal.returns-else-unwrap_or-gt0-clause-plain
returns-else-unwrap_or-gt0-clause-plain c = plain_told _ _ _ _ _ _ _ _ c.self.invariant c.self.view_is
