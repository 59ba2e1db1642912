use Rattle.std.proofs.Common.{◌≡◌, ◌-◌, length, take, drop, arith, rules, tests}
use Rattle.std.proofs.lemmas.Iterator.{IsFirst-from_position, YieldsList-from_slice}
use Rattle.std.proofs.lemmas.List.{take_all, length-drop}
use Rattle.sheet.proofs.Cuts.{ahead_taken}
use Rattle.sheet.proofs.reader.Reader.part.Goals as goal

pub returns-clause-taken : goal.returns-clause-taken
returns-clause-taken c =
    let s = c.args.self.now.bytes.now in
    let at = c.args.self.now.at in
    let stop = c.args.stop in
    let rest = take (length s - at) (drop at s) in
    let whole : rest ≡ drop at s = take_all (length s - at) (drop at s) (omega (arith, length-drop at s)) in
    let first = IsFirst-from_position _ _ c.position.result (λ b. b ≡ stop) (λ b. b ≡ stop → ⊥) c.position.ensures.ran (YieldsList-from_slice rest cc) (λ x q k. search (rules, tests)) (λ x q k. search (rules, tests)) in
    ahead_taken stop s at rest c.position.result c.unwrap_or-end.result whole c.requires first c.unwrap_or-end.ensures
