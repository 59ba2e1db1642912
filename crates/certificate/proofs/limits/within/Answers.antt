-- What is left to show of `within`.
use Rattle.std.proofs.Common.{◌<◌, ◌≤◌, rules}
use Rattle.std.proofs.lemmas.Iterator.{cases_from_all, YieldsList-from_slice}
use borrow.Author.Tests.{tests}
use Rattle.certificate.proofs.Limited.{within_test}
use Rattle.certificate.proofs.limits.within.Goals as goal

pub returns : goal.returns
returns c =
    within_test c.args.limit c.args.list.now c.all.result
    (cases_from_all _ _ _ (λ x. x ≤ c.args.limit) (λ x. c.args.limit < x) c.all.ensures.ran (YieldsList-from_slice c.args.list.now (cc))
    (λ x q k. search (rules, tests)) (λ x q k. search (rules, tests)))
