use Rattle.std.proofs.Common.{◌≡◌, ℕ, leb, List, ◌∷◌, length, drop, sym, refl, ap, subst, arith}
use Rattle.sheet.specs.Parts.{lines}
use Rattle.sheet.proofs.Cuts.{lines_none, line_taken}
use Rattle.sheet.proofs.reader.Reader.next_line.Goals as goal

pub returns-then-self-clause-taken : goal.returns-then-self-clause-taken
returns-then-self-clause-taken c = (lines_none c.args.self.now.bytes.now c.args.self.now.at (omega arith), refl)

pub returns-clause-taken : goal.returns-clause-taken
returns-clause-taken c =
    let s = c.args.self.now.bytes.now in
    let w = c.part-bytes.result.now in
    let at = c.args.self.now.at in
    let next = c.part-bytes.new.self.at in
    let same = c.part-bytes.ensures.same.0 in
    let size = ap length same in
    record {
      ahead = subst (λ (t : List ℕ). lines (drop at s) ≡ record { bytes = w; ended = leb next (length t) } ∷ lines (drop next t)) (sym same)
          (line_taken s w at next (omega arith) (omega arith) c.part-bytes.ensures.moved c.part-bytes.ensures.taken);
      number = refl;
      line = refl;
      further = omega arith;
      few = omega arith;
    }
