-- What is left to show of `row_of_three`.
use Rattle.std.proofs.Common.{ap, ◌∙◌, arith}
use Rattle.board.specs.declared.link.End.TheVariants.{Site, Drain}
use Rattle.board.specs.Shape.{Shape}
use Rattle.board.specs.Lists.{linked}
use Rattle.pile.proofs.Results.{add_goes, row_0, row_1, row_2, row_3, sites_of, all_of}
use Rattle.pile.proofs.row_of_three.Goals as goal

pub returns-in_err-add : goal.returns-in_err-add
returns-in_err-add c =
    let h = c.in_ok-list.ensures in
    absurd (add_goes c.in_ok-list.list row_0 0 (Site 1) 2 c.in_err-add.field-0.0 h.2 (omega (arith, sites_of), omega (arith, sites_of), omega arith) (omega arith) (omega (arith, all_of)) (omega (arith, h.1))
    c.in_err-add.ensures.0)

pub returns-in_err-add-2 : goal.returns-in_err-add-2
returns-in_err-add-2 c =
    let h = c.in_ok-list.ensures in
    let h1 = c.in_ok-add.ensures in
    let e1 = h1.1 ∙ ap (λ (b : Shape). linked b (record { site = 0; other = Site 1; count = 2 })) h.2 in
    absurd (add_goes c.add.new.self row_1 2 (Site 1) 2 c.in_err-add-2.field-0.0 e1 (omega (arith, sites_of), omega (arith, sites_of), omega arith) (omega arith) (omega (arith, all_of)) (omega (arith, h.1, h1.2))
    c.in_err-add-2.ensures.0)

pub returns-in_err-add-3 : goal.returns-in_err-add-3
returns-in_err-add-3 c =
    let h = c.in_ok-list.ensures in
    let h1 = c.in_ok-add.ensures in
    let h2 = c.in_ok-add-2.ensures in
    let e1 = h1.1 ∙ ap (λ (b : Shape). linked b (record { site = 0; other = Site 1; count = 2 })) h.2 in
    let e2 = h2.1 ∙ ap (λ (b : Shape). linked b (record { site = 2; other = Site 1; count = 2 })) e1 in
    absurd (add_goes c.add-2.new.self row_2 0 Drain 1 c.in_err-add-3.field-0.0 e2 (omega (arith, sites_of)) (omega arith) (omega (arith, all_of)) (omega (arith, h.1, h1.2, h2.2))
    c.in_err-add-3.ensures.0)

pub returns-in_err-add-4 : goal.returns-in_err-add-4
returns-in_err-add-4 c =
    let h = c.in_ok-list.ensures in
    let h1 = c.in_ok-add.ensures in
    let h2 = c.in_ok-add-2.ensures in
    let h3 = c.in_ok-add-3.ensures in
    let e1 = h1.1 ∙ ap (λ (b : Shape). linked b (record { site = 0; other = Site 1; count = 2 })) h.2 in
    let e2 = h2.1 ∙ ap (λ (b : Shape). linked b (record { site = 2; other = Site 1; count = 2 })) e1 in
    let e3 = h3.1 ∙ ap (λ (b : Shape). linked b (record { site = 0; other = Drain; count = 1 })) e2 in
    absurd (add_goes c.add-3.new.self row_3 2 Drain 1 c.in_err-add-4.field-0.0 e3 (omega (arith, sites_of)) (omega arith) (omega (arith, all_of)) (omega (arith, h.1, h1.2, h2.2, h3.2))
    c.in_err-add-4.ensures.0)
