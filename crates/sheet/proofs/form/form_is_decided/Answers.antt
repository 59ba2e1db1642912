use Rattle.sheet.proofs.Uniques.{form_not_both, form_one_reading, form_one_refusal, rows_in_order}
use Rattle.sheet.proofs.form.form_is_decided.Goals as goal

pub returns : goal.returns
returns c = record { not_both = form_not_both; one_reading = form_one_reading; one_refusal = form_one_refusal; ordered = rows_in_order }
