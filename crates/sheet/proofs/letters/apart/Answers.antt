use Rattle.std.proofs.Common.{[], ◌∷◌, length, sym, ap, ◌∙◌, arith, rules}
use Rattle.std.proofs.lemmas.List.{take_rest, length-drop}
use Rattle.sheet.specs.Parts.{parts}
use Rattle.sheet.specs.Letters.{letter}
use Rattle.sheet.proofs.Heads.{head_alone, head_spaced, head_inverse, known_none, known_some}
use Rattle.sheet.proofs.letters.apart.Goals as goal
use Rattle.sheet.proofs.letters.apart.Goals.{in-len1, in-32}

pub returns-in_err-kind : goal.returns-in_err-kind
returns-in_err-kind c =
    let l = c.args.line.now in
    rw c.from_residual.ensures
    (λ p. known_none l c.from.result c.try_from.result c.try_from.ensures (sym c.ok.ensures.value ∙ c.in_err-kind.was)
    (elim c.if-line-lt2.branch [ in-len1 w ↦ search rules | in-32 w ↦ search rules ]))

pub returns : goal.returns
returns c =
    let l = c.args.line.now in
    let k = c.in_ok-kind.kind in
    let is = known_some c.from.result k c.try_from.result c.try_from.ensures (sym c.ok.ensures.value ∙ c.in_ok-kind.was) in
    elim c.if-line-lt2.branch [
      | in-len1 w ↦ rw w.letter-is (head_alone l k (search rules) (search rules), tt)
      | in-32 w ↦
          let rest = take_rest l 2 in
          rw w.letter-is (head_spaced l k (search rules) (search rules) (search rules) ∙ ap (λ r. (letter k ∷ []) ∷ parts 32 r) (sym rest), omega (arith, ap length rest, length-drop 2 l))
    ]

pub returns-in_default : goal.returns-in_default
returns-in_default c p = record { none = λ k ws h may. let l = head_inverse c.args.line.now k ws h in search rules }
