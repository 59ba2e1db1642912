-- What is left to show of `lowest_back`.
use Rattle.std.proofs.Common.{◌≡◌, length, ap, subst, arith}
use Rattle.firing.specs.Firing.{at}
use Rattle.certificate.specs.Sets.{LowestMarked}
use Rattle.certificate.proofs.Leaving.{lowest_left}
use Rattle.certificate.proofs.limits.Certificate.lowest_back.Goals as goal

pub returns : goal.returns
returns g c =
    let b = g.B.Board.shape c.args.self.now.board.now in
    let fs = c.narrow.new.queue.marks.now in
    let size : length c.marks.result.now ≡ b.sites = omega (arith, ap length c.marks.ensures, c.narrow.ensures.size, c.enter.ensures.size, c.new-queue.ensures.size) in
    lowest_left b (at c.args.self.now.counts.now) (at c.args.self.now.end.now) fs c.lowest_marked.result c.narrow.ensures.largest
    (subst (λ m. LowestMarked b.sites m c.lowest_marked.result) c.marks.ensures (subst (λ n. LowestMarked n c.marks.result.now c.lowest_marked.result) size c.lowest_marked.ensures))
