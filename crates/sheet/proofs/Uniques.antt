-- A line says one thing, and is refused in one way.
use Rattle.std.proofs.Common.{◌≡◌, ℕ, ◌+◌, List, [], ◌∷◌, length, get_or, Some, None, Option, sym, refl, ap, ◌∙◌, subst, inl, inr, arith}
use Rattle.std.proofs.lemmas.Bool.{cases_order}
use Rattle.refusal.specs.declared.Refusal.{Refusal}
use Rattle.refusal.specs.declared.Part.TheVariants.{Sheet}
use Rattle.refusal.specs.Table.{Passed, Refused}
use Rattle.refusal.proofs.Answers.{not_both, one_answer, Single}
use Rattle.sheet.specs.declared.Kind.{Kind}
use Rattle.sheet.specs.declared.Kind.TheVariants.{Grid, Sites, Link, Earth, Merge, Cut, Height, Ceiling, Drop, Fire, Run, Wave, Close, Shelve, Resume}
use Rattle.board.specs.declared.link.End.{End}
use Rattle.board.specs.declared.link.End.TheVariants.{Site, Drain}
use Rattle.sheet.specs.declared.Line.{Line}
use Rattle.sheet.specs.declared.Line.TheVariants as line
use Rattle.sheet.specs.declared.LineRefusal.{LineRefusal}
use Rattle.sheet.specs.Parts.{Raw, lines}
use Rattle.sheet.specs.Letters.{Slot, number, far, slots, Fits, Misfit, Value, amount, drain, Says, Say, kind, said}
use Rattle.sheet.specs.Form.{BadByte, BadWord, line_checks, Fine, AllFine, FirstBad}
use Rattle.sheet.specs.Laws.{NotBoth, OneReading, OneRefusal, RowsInOrder}
use Rattle.sheet.proofs.Heads.{head_one}
use Rattle.sheet.proofs.Verdicts.{silent_byte, silent_letter}

-- a word says one thing
says_one : (w : List ℕ) (d e : Value) → Says w d → Says w e → d ≡ e
says_one w (amount m) (amount n) p q = ap amount (p.1 ∙ sym q.1)
says_one w (amount m) drain p q = let star = ap (λ v. get_or v 0 0) q in let digit = p.0.digits 0 p.0.some in absurd (omega (arith, star, digit.0))
says_one w drain (amount n) p q = let star = ap (λ v. get_or v 0 0) p in let digit = q.0.digits 0 q.0.some in absurd (omega (arith, star, digit.0))
says_one w drain drain p q = refl

say_one : (ws : List (List ℕ)) (ds es : List Value) → Say ws ds → Say ws es → ds ≡ es
say_one [] [] [] p q = refl
say_one [] [] (e ∷ es) p q = absurd q
say_one [] (d ∷ ds) es p q = absurd p
say_one (w ∷ ws) [] es p q = absurd p
say_one (w ∷ ws) (d ∷ ds) [] p q = absurd q
say_one (w ∷ ws) (d ∷ ds) (e ∷ es) p q =
    ap (λ v. v ∷ ds) (says_one w d e p.0 q.0) ∙ ap (λ vs. e ∷ vs) (say_one ws ds es p.1 q.1)

-- a line from its letter and what its words say
number_of : Value → ℕ
number_of (amount n) = n
number_of drain = 0

end_of : Value → End
end_of (amount n) = Site n
end_of drain = Drain

line_of : Kind → List Value → Line
line_of Grid vs = line.Grid (number_of (get_or vs 0 drain)) (number_of (get_or vs 1 drain))
line_of Sites vs = line.Sites (number_of (get_or vs 0 drain))
line_of Link vs = line.Link (number_of (get_or vs 0 drain)) (end_of (get_or vs 1 drain)) (number_of (get_or vs 2 drain))
line_of Earth vs = line.Earth (number_of (get_or vs 0 drain))
line_of Merge vs = line.Merge (number_of (get_or vs 0 drain)) (number_of (get_or vs 1 drain))
line_of Cut vs = line.Cut (number_of (get_or vs 0 drain)) (end_of (get_or vs 1 drain)) (number_of (get_or vs 2 drain))
line_of Height vs = line.Height (number_of (get_or vs 0 drain)) (number_of (get_or vs 1 drain))
line_of Ceiling vs = line.Ceiling (number_of (get_or vs 0 drain))
line_of Drop vs = line.Drop (number_of (get_or vs 0 drain)) (number_of (get_or vs 1 drain))
line_of Fire vs = line.Fire (number_of (get_or vs 0 drain))
line_of Run vs = line.Run (number_of (get_or vs 0 drain))
line_of Wave vs = line.Wave
line_of Close vs = line.Close
line_of Shelve vs = line.Shelve
line_of Resume vs = line.Resume

-- the words of a line fit the places of its letter
abbrev Suit : List Slot → List Value → Type 0
Suit [] [] = Unit {0}
Suit [] (v ∷ vs) = ⊥
Suit (t ∷ ts) [] = ⊥
Suit (number ∷ ts) (amount n ∷ vs) = Suit ts vs
Suit (number ∷ ts) (drain ∷ vs) = ⊥
Suit (far ∷ ts) (v ∷ vs) = Suit ts vs

-- a line is what its letter and its words say, and its words fit their places
line_told : (x : Line) → (line_of (kind x) (said x) ≡ x) × Suit (slots (kind x)) (said x)
unfolding line_of number_of end_of
line_told (line.Grid r c) = (refl, tt)
line_told (line.Sites n) = (refl, tt)
line_told (line.Link v (Site u) k) = (refl, tt)
line_told (line.Link v Drain k) = (refl, tt)
line_told (line.Earth w) = (refl, tt)
line_told (line.Merge a b) = (refl, tt)
line_told (line.Cut v (Site u) k) = (refl, tt)
line_told (line.Cut v Drain k) = (refl, tt)
line_told (line.Height v k) = (refl, tt)
line_told (line.Ceiling k) = (refl, tt)
line_told (line.Drop v k) = (refl, tt)
line_told (line.Fire v) = (refl, tt)
line_told (line.Run k) = (refl, tt)
line_told line.Wave = (refl, tt)
line_told line.Close = (refl, tt)
line_told line.Shelve = (refl, tt)
line_told line.Resume = (refl, tt)

-- a line of good form says one thing
fine_one : {p q : Option Kind} {l : Raw} (x y : Line) → Fine p l x → Fine q l y → x ≡ y
fine_one {p} {q} {l} x y f g =
    let same = head_one l.bytes (kind x) (kind y) f.words g.words f.head g.head in
    let says = say_one g.words (said x) (said y) (subst (λ ws. Say ws (said x)) same.1 f.says) g.says in
    sym (line_told x).0 ∙ ap (λ k. line_of k (said x)) same.0 ∙ ap (line_of (kind y)) says ∙ (line_told y).0

says_far : (w : List ℕ) (v : Value) → Says w v → Fits far w
says_far w (amount n) s = inl s.0
says_far w drain s = inr s

fits_all : (c x : ℕ) (ts : List Slot) (ws : List (List ℕ)) (vs : List Value) → Suit ts vs → Say ws vs → Misfit c ts ws x → ⊥
fits_all c x [] [] [] u s m = m
fits_all c x [] [] (v ∷ vs) u s m = s
fits_all c x [] (w ∷ ws) [] u s m = s
fits_all c x [] (w ∷ ws) (v ∷ vs) u s m = u
fits_all c x (t ∷ ts) ws [] u s m = u
fits_all c x (t ∷ ts) [] (v ∷ vs) u s m = s
fits_all c x (number ∷ ts) (w ∷ ws) (amount n ∷ vs) u s (inl m) = m.0 s.0.0
fits_all c x (number ∷ ts) (w ∷ ws) (amount n ∷ vs) u s (inr m) = fits_all (c + length w + 1) x ts ws vs u s.1 m.1
fits_all c x (number ∷ ts) (w ∷ ws) (drain ∷ vs) u s m = u
fits_all c x (far ∷ ts) (w ∷ ws) (v ∷ vs) u s (inl m) = m.0 (says_far w v s.0)
fits_all c x (far ∷ ts) (w ∷ ws) (v ∷ vs) u s (inr m) = fits_all (c + length w + 1) x ts ws vs u s.1 m.1

-- a line of good form passes its checks
fine_passes : {p : Option Kind} {l : Raw} (x : Line) → Fine p l x → Passed (line_checks p l)
fine_passes {p} {l} x f = (
  silent_byte l f.plain f.ended,
  (
    silent_letter p l (kind x) f.words f.head f.may,
    (
      (λ c b.
          let same = head_one l.bytes b.letter (kind x) b.words f.words b.head f.head in
          fits_all 3 c (slots (kind x)) f.words (said x) (line_told x).1 f.says
          (subst (λ ws. Misfit 3 (slots (kind x)) ws c) same.1 (subst (λ k. Misfit 3 (slots k) b.words c) same.0 b.fails))),
      tt,
    ),
  ),
)

-- each of a line's rows has one place
bad_byte_one : {l : Raw} (c d : ℕ) → BadByte l c → BadByte l d → c ≡ d
bad_byte_one {l} c d a b =
    elim (cases_order a.place b.place) [
      | inl e ↦ omega (arith, a.column, b.column)
      | inr (inl lt) ↦ absurd (a.here (omega (arith, b.within)) (b.before a.place lt))
      | inr (inr gt) ↦ absurd (b.here (omega (arith, a.within)) (a.before b.place gt))
    ]

misfit_one : (c x y : ℕ) (ts : List Slot) (ws : List (List ℕ)) → Misfit c ts ws x → Misfit c ts ws y → x ≡ y
misfit_one c x y [] [] p q = absurd p
misfit_one c x y [] (w ∷ ws) p q = p ∙ sym q
misfit_one c x y (t ∷ ts) [] p q = omega arith
misfit_one c x y (t ∷ ts) (w ∷ ws) (inl p) (inl q) = p.1 ∙ sym q.1
misfit_one c x y (t ∷ ts) (w ∷ ws) (inl p) (inr q) = absurd (p.0 q.0)
misfit_one c x y (t ∷ ts) (w ∷ ws) (inr p) (inl q) = absurd (q.0 p.0)
misfit_one c x y (t ∷ ts) (w ∷ ws) (inr p) (inr q) = misfit_one (c + length w + 1) x y ts ws p.1 q.1

bad_word_one : {l : Raw} (c d : ℕ) → BadWord l c → BadWord l d → c ≡ d
bad_word_one {l} c d a b =
    let same = head_one l.bytes a.letter b.letter a.words b.words a.head b.head in
    misfit_one 3 c d (slots b.letter) b.words
    (subst (λ ws. Misfit 3 (slots b.letter) ws c) same.1 (subst (λ k. Misfit 3 (slots k) a.words c) same.0 a.fails)) b.fails

line_single : (p : Option Kind) (l : Raw) → Single (line_checks p l)
line_single p l = (bad_byte_one, ((λ c d a b. a.0 ∙ sym b.0), (bad_word_one, tt)))

refusal_one : (p : Option Kind) (l : Raw) (e f : Refusal) → Refused (line_checks p l) Sheet e → Refused (line_checks p l) Sheet f → e ≡ f
refusal_one p l e f a b =
    let same = one_answer (line_checks p l) e.row f.row e.place f.place (line_single p l) a.by b.by in
    ap (λ r. record { row = r; place = e.place; part = e.part }) same.0
    ∙ ap (λ c. record { row = f.row; place = c; part = e.part }) same.1
    ∙ ap (λ s. record { row = f.row; place = f.place; part = s }) (a.from ∙ sym b.from)

not_refused : {p : Option Kind} {l : Raw} (x : Line) (e : Refusal) → Fine p l x → Refused (line_checks p l) Sheet e → ⊥
not_refused {p} {l} x e f r = not_both (line_checks p l) e.row e.place r.by (fine_passes x f)

-- down the lines
all_fine_one : (p : Option Kind) (ls : List Raw) (xs ys : List Line) → AllFine p ls xs → AllFine p ls ys → xs ≡ ys
all_fine_one p [] [] [] a b = refl
all_fine_one p [] [] (y ∷ ys) a b = absurd b
all_fine_one p [] (x ∷ xs) ys a b = absurd a
all_fine_one p (l ∷ ls) [] ys a b = absurd a
all_fine_one p (l ∷ ls) (x ∷ xs) [] a b = absurd b
all_fine_one p (l ∷ ls) (x ∷ xs) (y ∷ ys) a b =
    let same = fine_one x y a.0 b.0 in
    ap (λ z. z ∷ xs) same ∙ ap (λ zs. y ∷ zs) (all_fine_one (Some (kind y)) ls xs ys (subst (λ z. AllFine (Some (kind z)) ls xs) same a.1) b.1)

fine_not_bad : (p : Option Kind) (n : ℕ) (ls : List Raw) (xs : List Line) (f : LineRefusal) → AllFine p ls xs → FirstBad p n ls f → ⊥
fine_not_bad p n [] [] f a b = b.0 a
fine_not_bad p n [] (x ∷ xs) f a b = a
fine_not_bad p n (l ∷ ls) [] f a b = a
fine_not_bad p n (l ∷ ls) (x ∷ xs) f a (inl b) = not_refused x f.refusal a.0 b.0
fine_not_bad p n (l ∷ ls) (x ∷ xs) f a (inr b) =
    let same = fine_one x b.0 a.0 b.1 in
    fine_not_bad (Some (kind b.0)) (n + 1) ls xs f (subst (λ z. AllFine (Some (kind z)) ls xs) same a.1) b.2

first_bad_one : (p : Option Kind) (n : ℕ) (ls : List Raw) (f g : LineRefusal) → FirstBad p n ls f → FirstBad p n ls g → f ≡ g
first_bad_one p n [] f g a b = a.1 ∙ sym b.1
first_bad_one p n (l ∷ ls) f g (inl a) (inl b) =
    ap (λ i. record { line = i; refusal = f.refusal }) (a.1 ∙ sym b.1)
    ∙ ap (λ e. record { line = g.line; refusal = e }) (refusal_one p l f.refusal g.refusal a.0 b.0)
first_bad_one p n (l ∷ ls) f g (inl a) (inr b) = absurd (not_refused b.0 f.refusal b.1 a.0)
first_bad_one p n (l ∷ ls) f g (inr a) (inl b) = absurd (not_refused a.0 g.refusal a.1 b.0)
first_bad_one p n (l ∷ ls) f g (inr a) (inr b) =
    let same = fine_one a.0 b.0 a.1 b.1 in
    first_bad_one (Some (kind b.0)) (n + 1) ls f g (subst (λ z. FirstBad (Some (kind z)) (n + 1) ls f) same a.2) b.2

pub form_not_both : NotBoth
form_not_both s xs f good (inl big) = omega (arith, good.size, big.0)
form_not_both s xs f good (inr bad) = fine_not_bad None 1 (lines s) xs f good.fine bad.1

pub form_one_reading : OneReading
form_one_reading s xs ys a b = all_fine_one None (lines s) xs ys a.fine b.fine

pub form_one_refusal : OneRefusal
form_one_refusal s f g (inl a) (inl b) = a.1 ∙ sym b.1
form_one_refusal s f g (inl a) (inr b) = absurd (omega (arith, a.0, b.0))
form_one_refusal s f g (inr a) (inl b) = absurd (omega (arith, a.0, b.0))
form_one_refusal s f g (inr a) (inr b) = first_bad_one None 1 (lines s) f g a.1 b.1

pub rows_in_order : RowsInOrder
rows_in_order p l = refl
