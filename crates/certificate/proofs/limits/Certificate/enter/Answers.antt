-- What is left to show of `enter`.
use Rattle.std.proofs.Common.{◌∙◌, arith}
use Rattle.certificate.proofs.Entering.{entered_none, entered_skip, entered_more}
use Rattle.certificate.proofs.limits.Certificate.enter.Goals as goal
use Rattle.certificate.proofs.limits.Certificate.enter.Goals.{then-count-gt0, else-count-gt0}

pub loop-v-init : goal.loop-v-init
loop-v-init g c =
    let q = c.args.queue.now in
    (entered_none _ _ _ q.marks.now c.requires.size q.queued c.requires.out, c.requires.size)

pub loop-v-preserved : goal.loop-v-preserved
loop-v-preserved g c =
    let size = c.loop-v.invariant.1 in
    elim c.if-count-gt0.branch [
      | then-count-gt0 t ↦
          let size' = t.wait.ensures.size ∙ size in
          rw t.queue-is (entered_more _ _ _ _ _ _ _ (omega arith) t.if-count-gt0.true c.loop-v.invariant.0 t.wait.ensures.turned size' t.wait.new.self.queued, size')
      | else-count-gt0 t ↦ rw t.queue-is (entered_skip _ _ _ _ _ (omega arith) c.loop-v.invariant.0, size)
    ]
