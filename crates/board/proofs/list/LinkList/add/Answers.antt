-- What is left to show of `add`.
use Rattle.std.proofs.Common.{◌≡◌, ℕ, ◌+◌, ◌<◌, ◌≤◌, ◌⊎◌, length, ◌≢◌, refl, ◌∙◌, ap, inl, inr, arith, rules}
use Rattle.board.specs.Shape.{all_links}
use Rattle.board.specs.declared.link.End.{End}
use Rattle.board.specs.declared.link.Link.{Link}
use Rattle.board.specs.Links.{weight}
use Rattle.board.specs.declared.list.LinkList.{LinkList}
use Rattle.board.specs.Lists.{listed}
use Rattle.board.specs.Adding.{shape_of}
use Rattle.board.specs.Tables.{fits_push, weights_push, fit_quiet}
use Rattle.board.specs.Listed.{listed_pushed, list_total}
use Rattle.board.proofs.list.LinkList.add.Goals as goal

-- the total does not pass the limit
low : (x : LinkList) (b : End) (k w : ℕ) → 1 ≤ k → w ≡ weight b k → x.total + w ≤ 500000 → (p : ℕ)
    → (p ≡ 0) × ((k < 1) ⊎ (500000 < all_links (shape_of x) + weight b k)) → ⊥
low x b k w one e h p o = elim o.1 [ inl z ↦ omega arith | inr z ↦ omega (arith, list_total x) ]

pub returns-then-total-gt-LIMIT : goal.returns-then-total-gt-LIMIT
returns-then-total-gt-LIMIT c =
    let e = c.refuse-then-total-gt-LIMIT.ensures in
    rw e (record { by = inl (refl, (refl, inr (omega (arith, list_total c.args.self.now, c.weight_of.ensures)))); from = refl }, refl)

pub returns-in-Some : goal.returns-in-Some
returns-in-Some c =
    let e = c.refuse_at.ensures in
    let some : 1 ≤ c.args.k = search rules in
    rw e (
      record {
        by = inr (
          low c.args.self.now c.args.b c.args.k c.weight_of.result some c.weight_of.ensures (omega arith),
          inl (refl, c.in-Some.ensures),
        );
        from = refl;
      },
      refl,
    )

pub returns-then-is_full : goal.returns-then-is_full
returns-then-is_full c =
    let e = c.refuse-then-is_full.ensures in
    let some : 1 ≤ c.args.k = search rules in
    let b = c.args.self.now in
    let full : length b.records.items ≡ 4096 = search rules in
    rw e (
      record {
        by = inr (
          low b c.args.b c.args.k c.weight_of.result some c.weight_of.ensures (omega arith),
          inr (fit_quiet b.sites c.args.a c.args.b c.in_default.ensures, inl (refl, (refl, full))),
        );
        from = refl;
      },
      refl,
    )

pub invariant_of-self : goal.invariant_of-self
invariant_of-self c =
    let b = c.args.self.now in
    let l : Link = record { site = c.args.a; other = c.args.b; count = c.args.k } in
    let some : 1 ≤ c.args.k = search rules in
    let pushed = c.push.ensures.items in
    let open_ : length b.records.items ≢ 4096 = search rules in
    record {
      some = b.some;
      few = b.few;
      room = omega (arith, c.push.ensures.len, b.room, open_);
      fit = rw pushed (fits_push b.records.items b.sites l b.fit c.in_default.ensures some);
      adds = rw pushed (omega (arith, weights_push b.records.items l));
      limit = omega arith;
    }

pub returns : goal.returns
returns c =
    let b = c.args.self.now in
    let l : Link = record { site = c.args.a; other = c.args.b; count = c.args.k } in
    let some : 1 ≤ c.args.k = search rules in
    let open_ : length b.records.items ≢ 4096 = search rules in (
      (
        low b c.args.b c.args.k c.weight_of.result some c.weight_of.ensures (omega arith),
        (fit_quiet b.sites c.args.a c.args.b c.in_default.ensures, ((λ p f. open_ f.1), tt)),
      ),
      ap (λ xs. listed b.sites (length xs) xs) c.push.ensures.items ∙ listed_pushed b.sites b.records.items l,
      c.push.ensures.len,
    )
