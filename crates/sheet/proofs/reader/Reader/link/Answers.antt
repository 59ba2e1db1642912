use Rattle.std.proofs.Common.{[], ◌∷◌}
use Rattle.std.proofs.lemmas.Result.{err_from_is_err_and}
use Rattle.sheet.proofs.Misfits.{misfit_behind}
use Rattle.sheet.specs.Letters.{number, far}
use Rattle.sheet.proofs.reader.Reader.link.Goals as goal

pub returns-in_err-site : goal.returns-in_err-site
returns-in_err-site c = let p = err_from_is_err_and c.from_residual.result c.from_residual.ensures.1 in rw (p.1, p.2) (c.in_err-site.ensures (far ∷ number ∷ []))

pub returns-in_err-end : goal.returns-in_err-end
returns-in_err-end c =
    let p = err_from_is_err_and c.from_residual-in_err-end.result c.from_residual-in_err-end.ensures.1 in
    rw (p.1, p.2) (misfit_behind _ (far ∷ number ∷ []) _ c.in_ok-site.ensures (c.in_err-end.ensures (number ∷ [])))
