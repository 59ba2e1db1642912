-- What is left to show of `next`.
use Rattle.std.proofs.Common.{◌≡◌, ℕ, length, nat_le, sym, ◌∙◌, rules, tests}
use Rattle.std.proofs.lemmas.Iterator.{YieldsList-from_slice}
use Rattle.std.proofs.lemmas.Iterator.Adapters.{option_map_id}
use Rattle.std.proofs.lemmas.Iterator.Consumers.{YieldsList-at, YieldsList-from_filter, YieldsList-from_filter_map, min_from_yields_List}
use Rattle.board.specs.Links.{far, m_of}
use Rattle.board.specs.Tables.{m_of_whole}
use Rattle.board.proofs.Nearest.{nearest, nearest_least, same_from}
use Rattle.board.proofs.list.ask.LinkListBoard.next.Goals as goal

pub returns : goal.returns
returns c =
    let b = c.args.self.now in
    let xs = b.records.items in
    let v = c.args.v in
    let j = c.args.j in
    let is : c.min.result ≡ nearest v j xs
    = sym (option_map_id _) ∙ min_from_yields_List {v = λ (x : ℕ). x} c.filter.result c.min.result c.min.ensures.ran
    (YieldsList-from_filter _ (λ u. nat_le j u)
    (YieldsList-at c.filter.ensures.source (YieldsList-from_filter_map _ (λ l. far l.site l.other v)
    (YieldsList-at c.filter_map.ensures.source (YieldsList-from_slice xs (cc))) c.filter_map.ensures.closure (λ x r q k. search (rules, tests))))
    c.filter.ensures.closure (λ x r q k. search (rules, tests))) in
    rw is (same_from (λ k. m_of xs (length xs) v k) _ j (λ k h. m_of_whole xs v k) _ (nearest_least v j b.sites xs b.fit))
