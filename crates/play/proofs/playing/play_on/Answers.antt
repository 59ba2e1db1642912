-- What is left to show of `play_on`.
use Rattle.std.proofs.Common.{length, get_or, refl, ◌∙◌, arith}
use Rattle.bench.specs.States.{state, entries, held}
use Rattle.play.specs.declared.Call.TheVariants.{Resume}
use Rattle.play.specs.Turns.{place}
use Rattle.play.proofs.Rounds.{playing_begins, playing_more, playing_ends, turn_in}
use Rattle.play.proofs.playing.play_on.Goals as goal

pub loop-i-init : goal.loop-i-init
loop-i-init g c = (playing_begins (state c.args.bench.now) (entries c.args.records.now) (held c.args.records.now) c.requires.agree c.requires.law, refl)

pub loop-i-preserved : goal.loop-i-preserved
loop-i-preserved g c =
    let s = g.B.Board.shape c.args.board.now in
    let t = c.turn-after in
    let p = place (state c.loop-i.bench) c.loop-i.held (entries c.loop-i.records) (held c.loop-i.records) in
    let q = place (state t.new.bench) t.result.0 (entries t.new.records) (held t.new.records) in (
      playing_more c.args.calls.now c.loop-i.answers c.loop-i.i Resume {p = p} {q = q} t.result.1 (omega arith) (omega (arith, c.loop-i.auto.answers, c.requires.even)) c.loop-i.invariant.0
          (turn_in s c.args.part (length c.loop-i.waiting) (length c.args.waiting.now) (length c.loop-i.bytes) (length c.args.bytes.now) p q t.result.1 (get_or c.args.calls.now c.loop-i.i Resume) c.loop-i.auto.waiting c.loop-i.auto.bytes t.ensures.turn)
          t.ensures.agree t.ensures.kept t.ensures.filed,
      t.ensures.same ∙ c.loop-i.invariant.1,
    )
