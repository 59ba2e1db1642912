use Rattle.std.proofs.Common.{◌+◌, [], ◌∷◌, ◌++◌, Some, sym, ap, ◌∙◌, subst, arith}
use Rattle.std.proofs.lemmas.List.{length_push}
use Rattle.sheet.specs.declared.Kind.{Kind}
use Rattle.sheet.proofs.Verdicts.{Come, come_more, come_last, said_some}
use Rattle.sheet.proofs.form.check_form.Goals as goal

pub loop-line-preserved : goal.loop-line-preserved
loop-line-preserved c =
    let inv = c.loop-line.invariant in
    let done = inv.0 in
    let x = c.in-Some.line in
    let next = c.in_ok-line.ensures in
    let more = come_more x inv.1 (said_some c.in-Some.is next.said) next.same.0 in
    (done ++ x ∷ [], subst (λ (k : Kind). Come c.args.sheet.now c.next_said.new.self.reader (Some k) (done ++ x ∷ [])) (sym c.from.ensures) more, ap (λ n. n + 1) inv.2 ∙ sym (length_push done x), omega arith)

pub returns : goal.returns
returns c =
    let inv = c.loop-line.invariant in
    (inv.0, record { size = c.in_ok-walk.ensures.0; fine = come_last c.next_said.new.self.reader inv.1 c.in_default.is c.in_ok-line.ensures.said }, inv.2)
