-- What is left to show of `new`.
use Rattle.std.proofs.Common.{◌≡◌, [], length, sym, ap, ◌∙◌, arith, rules}
use Rattle.board.specs.Links.{weights}
use Rattle.board.specs.Lists.{listed}
use Rattle.board.specs.Tables.{weights_none}
use Rattle.board.specs.Listed.{listed_none}
use Rattle.board.proofs.list.LinkList.new.Goals as goal

pub invariant_of-result : goal.invariant_of-result
invariant_of-result c =
    let none : c.new-2.result.items ≡ [] = c.new-2.ensures in
    record {
      some = search rules;
      few = search rules;
      room = omega (arith, ap length none);
      fit = λ i h. absurd (omega (arith, ap length none));
      adds = sym (ap (λ xs. weights xs (length xs)) none ∙ weights_none []);
      limit = omega arith;
    }

pub returns : goal.returns
returns c =
    let none : c.new-2.result.items ≡ [] = c.new-2.ensures in
    (search rules, ap length none, ap (λ xs. listed c.args.sites (length xs) xs) none ∙ listed_none c.args.sites [])
