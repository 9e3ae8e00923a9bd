use Rattle.std.proofs.Common.{Bool, not, sym, ap, ◌∙◌, subst, is_some, arith}
use Rattle.rdlpp_read.specs.Buffer.{EndsHeld}
use Rattle.rdlpp_define.specs.Table.{macro_at}
use Rattle.rdlpp_front.proofs.Insides.{usage_inside}
use Rattle.rdlpp_usages.specs.declared.expansion.Opening.TheVariants.{Opened}
use Rattle.rdlpp_usages.proofs.UsageOpens.{body_means, call_means_by, is_list, keeps_listed_by, keeps_plain, leaves_plain, no_list, opened_line, uses_more, uses_name}
use Rattle.rdlpp_usages.proofs.expansion.Expansion.open_usage.Goals as goal

pub consume-requires-clause-inside : goal.consume-requires-clause-inside
consume-requires-clause-inside g c = (usage_inside _ _ c.requires.held c.requires.usage).1

pub returns-then-is_none : goal.returns-then-is_none
returns-then-is_none g c = record {
  limits = grind arith;
  only = grind arith;
  call = grind arith;
  uses =
      let inside = usage_inside _ _ c.requires.held c.requires.usage in
      rw c.consume.ensures.used (uses_name (g.S.Sources.has_known_texts c.args.sources.now) g.S.Sources.unread Opened c.args.files.now.include_stack c.args.len c.requires.some inside.0 inside.1);
  sound = c.open_body.ensures.sound _;
  opens =
      leaves_plain _ _ _ _ _ _ (no_list _ (ap is_some (sym c.arity.ensures) ∙ c.is_none.ensures ∙ ap (λ (b : Bool). not b) c.if-is_none.true)) (ap (λ v. v.opens) c.open_body.ensures.opens)
      (ap (λ v. v.line) c.open_body.ensures.opens ∙ c.line-line.ensures ∙ ap (λ b. b.line) c.file.ensures.buffer);
  keeps =
      keeps_plain (macro_at c.args.table.now.macros c.args.id).formals (g.S.Sources.has_known_texts c.args.sources.now) g.S.Sources.unread c.args.self.now.most Opened c.clear.new.self.bytes _ _
      (no_list _ (ap is_some (sym c.arity.ensures) ∙ c.is_none.ensures ∙ ap (λ (b : Bool). not b) c.if-is_none.true)) (ap (λ s. s.bytes) c.clear.ensures);
  unheld = grind arith;
  means =
      λ rules s ws os run t.
      rw c.consume.ensures.used
      (body_means rules g.S.Sources.unread ws os s c.args.table.now.macros c.args.self.now.depth c.args.self.now.most c.args.id c.args.len c.args.files.now.include_stack _ c.requires.some
      (subst EndsHeld c.file.ensures.buffer c.file.ensures.ends) c.requires.held c.requires.plain c.requires.usage run c.requires.room c.requires.named
      (no_list _ (ap is_some (sym c.arity.ensures) ∙ c.is_none.ensures ∙ ap (λ (b : Bool). not b) c.if-is_none.true))
      (ap (λ v. v.opens) c.open_body.ensures.opens) (ap (λ v. v.line) c.open_body.ensures.opens ∙ c.line-line.ensures ∙ ap (λ b. b.line) c.file.ensures.buffer)
      (ap (λ v. v.depth) c.open_body.ensures.opens ∙ ap (λ e. e.depth) c.self.view_is));
}

pub returns : goal.returns
returns g c = record {
  limits = grind arith;
  only = grind arith;
  call = grind arith;
  uses =
      let inside = usage_inside _ _ c.requires.held c.requires.usage in
      uses_more _ _ c.open_call.result c.args.files.now.include_stack c.consume.new.self.include_stack c.open_call.new.files.include_stack
      (rw c.consume.ensures.used (uses_name (g.S.Sources.has_known_texts c.args.sources.now) g.S.Sources.unread Opened c.args.files.now.include_stack c.args.len c.requires.some inside.0 inside.1)) c.open_call.ensures.uses;
  sound = grind arith;
  opens =
      rw (← c.self.view_is, ← c.file.ensures.buffer, ← c.line-line.ensures) c.open_call.ensures.opens;
  keeps =
      keeps_listed_by c.args.table.now.macros c.args.id (g.S.Sources.has_known_texts c.args.sources.now) g.S.Sources.unread c.self.inside.arguments.most c.args.self.now.most c.open_call.result c.open_call.new.arguments.bytes
      c.consume.new.self.include_stack _ c.open_call.new.files.include_stack (ap (λ e. e.most) c.self.view_is) (ap (λ fs. fs.include_stack) c.consume.ensures.used)
      (is_list _ (ap is_some (sym c.arity.ensures) ∙ c.is_none.ensures ∙ ap (λ (b : Bool). not b) c.if-is_none.false)) c.open_call.ensures.keeps;
  unheld = grind arith;
  means =
      λ rules s ws os run t.
      call_means_by rules g.S.Sources.unread ws os s c.args.table.now.macros c.args.self.now.depth c.args.self.now.most c.args.id c.args.len _ c.open_call.result
      c.args.files.now.include_stack c.consume.new.self.include_stack c.open_call.new.files.include_stack _ c.self.inside.arguments.most (ap (λ e. e.most) c.self.view_is) (ap (λ fs. fs.include_stack) c.consume.ensures.used) c.requires.some
      (subst EndsHeld c.file.ensures.buffer c.file.ensures.ends) c.requires.held c.requires.plain c.requires.usage run c.requires.room c.requires.named
      (is_list _ (ap is_some (sym c.arity.ensures) ∙ c.is_none.ensures ∙ ap (λ (b : Bool). not b) c.if-is_none.false))
      c.open_call.ensures.comes_to c.open_call.ensures.uses t
      (λ o. opened_line c.open_call.result _ c.line-line.result _ c.open_call.ensures.opens.line_is o ∙ c.line-line.ensures ∙ ap (λ b. b.line) c.file.ensures.buffer)
      (c.open_call.ensures.limits.0 ∙ ap (λ e. e.depth) c.self.view_is);
}
