-- What is left to show of `links`.
use Rattle.std.proofs.Common.{◌≡◌, false, ◌||◌, ◌==◌, sym, ◌∙◌, ap, inl, arith}
use Rattle.std.proofs.lemmas.Bool.{eq-eqb, ne_eqb}
use Rattle.board.specs.Grids.{one}
use Rattle.board.proofs.Ones.{from_bool_is}
use Rattle.ring.specs.Rings.{after}
use Rattle.ring.specs.Round.{m_in, m_off, m_off_left, m_one}
use Rattle.ring.proofs.RingBoard.links.Goals as goal
use Rattle.ring.proofs.RingBoard.links.Goals.{then-u-self-via-then-u-self, then-u-self-via-else-u-self+then-v-self, then-a-v, else-a-v}

pub returns-then-u-self : goal.returns-then-u-self
returns-then-u-self c =
    let n = c.args.self.now.sites in
    elim c.then-u-self.branch [
      | then-u-self-via-then-u-self w ↦ sym (m_off_left n c.args.u c.args.v (omega arith))
      | then-u-self-via-else-u-self+then-v-self w ↦ sym (m_off n c.args.u c.args.v (omega arith))
    ]

pub returns : goal.returns
returns c =
    let n = c.args.self.now.sites in
    let u = c.args.u in
    let v = c.args.v in
    c.from.ensures ∙ from_bool_is _ ∙
    elim c.if-a-v.branch [
      | then-a-v w ↦ ap one (w.from-is ∙ eq-eqb _ _ w.if-a-v.true) ∙ sym (m_one n u v (omega arith) (omega arith) (inl (sym c.after-a.ensures ∙ w.if-a-v.true)))
      | else-a-v w ↦
          let apart : (after n u == v) ≡ false = ne_eqb (after n u) v (λ e. w.if-a-v.false (c.after-a.ensures ∙ e)) in
          ap one (w.from-is ∙ ap (λ b. b == u) c.after-b.ensures) ∙ sym (m_in n u v (omega arith) (omega arith) ∙ ap (λ t. one (t || after n v == u)) apart)
    ]
