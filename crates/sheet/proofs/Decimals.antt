-- Digits read one by one: a number and its value.
use Rattle.std.proofs.Common.{◌≡◌, ℕ, ◌+◌, ◌-◌, ◌*◌, ◌<◌, ◌≤◌, List, length, get_or, take, sym, ap, ◌∙◌, subst, arith, rules}
use Rattle.std.specs.Char.{digit_value}
use Rattle.std.specs.Str.Parse.{AllDigits, digits_value}
use Rattle.std.proofs.lemmas.List.{take_all, length-take-le}
use Rattle.std.proofs.lemmas.Str.Parse.{IsNumeralModel, numerals_by_value, tells_digits, digits_value_short, digit_at}
use Rattle.std.proofs.lemmas.Int.Digits.{digits_more, digits_value_more}
use Rattle.sheet.specs.Parts.{Number}

own : IsNumeralModel (AllDigits 10) (digits_value 10)
own = numerals_by_value (AllDigits 10) tells_digits

digit : (c : ℕ) → 48 ≤ c → c ≤ 57 → digit_value c ≡ c - 48
digit c lo hi = search rules

-- the first i bytes are digits, and n is their number
pub record Read (s : List ℕ) (i n : ℕ) : Type 0 where
  pub digits : AllDigits 10 (take i s)
  pub is : n ≡ digits_value 10 (take i s)

pub read_small : (s : List ℕ) (i n : ℕ) → Read s i n → i ≤ 12 → i ≤ length s → n < 1000000000000
read_small s i n r le within = omega (arith, digits_value_short own (take i s) 12 r.digits (omega (arith, length-take-le i s within)), r.is)

pub read_more : (s : List ℕ) (i n : ℕ) → Read s i n → i < length s → 48 ≤ get_or s i 0 → get_or s i 0 ≤ 57 → Read s (i + 1) (n * 10 + (get_or s i 0 - 48))
read_more s i n r lt lo hi =
    let d = digit (get_or s i 0) lo hi in
    record {
      digits = digits_more 10 s i lt r.digits (omega arith);
      is = sym (digits_value_more 10 s i lt ∙ ap (λ k. k * 10 + digit_value (get_or s i 0)) (sym r.is) ∙ ap (λ k. n * 10 + k) d);
    }

pub read_all : (s : List ℕ) (i n : ℕ) → Read s i n → length s ≤ i → 0 < length s → length s ≤ 13 → (get_or s 0 0 ≡ 48 → length s ≡ 1) → Number s × (n ≡ digits_value 10 s)
read_all s i n r all some short plain =
    let whole = take_all i s all in
    let ds = subst (AllDigits 10) whole r.digits in
    (record { some = some; short = short; digits = λ k lt. let at = digit_at s k ds lt in (omega arith, omega arith); plain = plain }, r.is ∙ ap (digits_value 10) whole)
