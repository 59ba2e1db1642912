-- What is left to show of `links`.
use Rattle.std.proofs.Common.{sym, inl, inr, arith}
use Rattle.board.specs.GridsLemmas.{m_off, m_off_left, m_in}
use Rattle.board.proofs.Ones.{from_bool_is}
use Rattle.board.proofs.grid.GridBoard.links.Goals as goal

pub returns-then-u-n : goal.returns-then-u-n
returns-then-u-n c =
    let g = c.args.self.now in
    elim c.then-u-n.either [
      | inl h ↦ sym (m_off_left g.rows g.columns c.args.u c.args.v (omega arith))
      | inr h ↦ sym (m_off g.rows g.columns c.args.u c.args.v (omega arith))
    ]

pub returns : goal.returns
returns c =
    let g = c.args.self.now in
    let p = c.place.ensures in
    let q = c.place-2.ensures in
    let m = m_in g.rows g.columns c.args.u c.args.v (omega arith) (omega arith) in
    let is = c.is_beside.ensures in
    let from = c.from.ensures in
    let one = from_bool_is c.is_beside.result in
    cc
