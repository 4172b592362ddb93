-- What a refusal of a whole text says.
use Rattle.std.proofs.Common.{◌≡◌, ℕ, suc, Bool, true, false, if◌then◌else◌, List, [], ◌∷◌, ◌++◌, ◌+◌, ◌⊎◌, inl, inr, length, Option, Some, None, refl, sym, ap, ◌∙◌, subst, arith, nat_lt, append_assoc, append-nil, length-append}
use Rattle.fpc_base.specs.declared.refusal.Code.{Code}
use Rattle.fpc_base.specs.declared.refusal.Code.TheVariants.{Unexpected, TooDeep, LongName, ManyArguments}
use Rattle.polarised_formulas.specs.declared.logic.Logic.{Logic}
use Rattle.polarised_formulas.specs.PlainReading.{Reading, Next, on, whole_term, whole_formula, wrong, next, run, Use, of_term, of_formula, start, IsGoing}
use Rattle.polarised_formulas.specs.PlainForm.{GivesBack, IsLine}
use Rattle.polarised_formulas.specs.PlainTexts.{IsText, BeginsText, IsOn}
use Rattle.polarised_formulas.specs.PlainLimits.{name_length, arguments_before, nesting, limit_of, fault_inside, refused, outcome_at_end, unless_refused, outcome, IsTold, IsFree, IsRefused, RefusalIsTold}
use Rattle.polarised_formulas.proofs.Forward.{run-append}
use Rattle.polarised_formulas.proofs.Begins.{term_read, formula_read, stays_wrong, line_goes, going_begins}
use Rattle.polarised_formulas.proofs.Texts.{line_from_text, text_from_line, on_begins}

-- a limit is another code
limit_is_other : (q r : Reading) → limit_of q r ≡ Some Unexpected → ⊥
limit_is_other q r = by (nat_lt 10000 (nesting q)) (nat_lt 255 (name_length r)) (nat_lt 254 (arguments_before r))
  where
    by : (a b c : Bool) → (if a then Some TooDeep else if b then Some LongName else if c then Some ManyArguments else None) ≡ Some Unexpected → ⊥
    by true b c e = cc
    by false true c e = cc
    by false false true e = cc
    by false false false e = cc

-- where a list with one more item is cut: at that item, or before it
cut : (front before after : List ℕ) (last b : ℕ) → front ++ last ∷ [] ≡ before ++ b ∷ after → ((front ≡ before) × (last ≡ b)) ⊎ ((rest : List ℕ) × (front ≡ before ++ b ∷ rest))
cut [] [] after last b e = inl (refl, cc)
cut [] (d ∷ []) after last b e = cc
cut [] (d ∷ c ∷ before) after last b e = cc
cut (c ∷ front) [] after last b e = let s : c ≡ b = cc in inr (front, ap (λ x. x ∷ front) s)
cut (c ∷ front) (d ∷ before) after last b e =
    let s : c ≡ d = cc in let tails : front ++ last ∷ [] ≡ before ++ b ∷ after = cc in by s (cut front before after last b tails)
  where
    by : c ≡ d → ((front ≡ before) × (last ≡ b)) ⊎ ((rest : List ℕ) × (front ≡ before ++ b ∷ rest)) → ((c ∷ front ≡ d ∷ before) × (last ≡ b)) ⊎ ((rest : List ℕ) × (c ∷ front ≡ d ∷ (before ++ b ∷ rest)))
    by s (inl h) = let t = h.0 in inl (cc, h.1)
    by s (inr h) = let t = h.1 in inr (h.0, cc)

abbrev IsWhole : Next → Type 0
IsWhole (on q) = ⊥
IsWhole (whole_term t) = Unit {0}
IsWhole (whole_formula f) = Unit {0}
IsWhole wrong = ⊥

module _ (text : ℕ → List ℕ) (number : List ℕ → ℕ) (back : GivesBack text number) (logic : Logic) (wanted : Use) where
  line_whole : (bytes : List ℕ) → IsLine text number logic wanted bytes → IsWhole (run number logic (start wanted) bytes)
  line_whole bytes = by wanted
    where
      by : (u : Use) → IsLine text number logic u bytes → IsWhole (run number logic (start u) bytes)
      by of_term h = subst IsWhole (sym (ap (run number logic (start of_term)) (sym h.2) ∙ term_read text number logic h.0 h.1)) tt
      by of_formula h = subst IsWhole (sym (ap (run number logic (start of_formula)) (sym h.2) ∙ formula_read text number logic h.0 h.1)) tt

  -- one more byte
  one_more : (front : List ℕ) (q : Reading) (b : ℕ) → run number logic (start wanted) front ≡ on q → run number logic (start wanted) (front ++ b ∷ []) ≡ next number logic q b
  one_more front q b e = run-append number logic (start wanted) front (b ∷ []) ∙ ap (λ n. run number logic n (b ∷ [])) e

  text_ends : (front : List ℕ) (q : Reading) → run number logic (start wanted) front ≡ on q → IsText text number logic wanted front → IsWhole (next number logic q 10)
  text_ends front q e h = subst IsWhole (one_more front q 10 e) (line_whole (front ++ 10 ∷ []) (line_from_text text number logic wanted front h))

  begins : (front : List ℕ) (q : Reading) → run number logic (start wanted) front ≡ on q → BeginsText text number logic wanted front
  begins front q e = (on_begins text number back logic wanted front).0 (subst IsOn (sym e) tt)

  -- nothing is told of any of the bytes
  abbrev AreFree : List ℕ → Type 0
  AreFree front = (before : List ℕ) (b : ℕ) (after : List ℕ) → front ≡ before ++ b ∷ after → IsFree text number logic wanted before b

  none_free : AreFree []
  none_free [] b after e = cc
  none_free (c ∷ before) b after e = cc

  free_more : (front : List ℕ) (b : ℕ) → AreFree front → IsFree text number logic wanted front b → AreFree (front ++ b ∷ [])
  free_more front b free last before c after e = by (cut front before after b c e)
    where
      by : ((front ≡ before) × (b ≡ c)) ⊎ ((rest : List ℕ) × (front ≡ before ++ c ∷ rest)) → IsFree text number logic wanted before c
      by (inl h) = subst (λ v. IsFree text number logic wanted v c) h.0 (subst (IsFree text number logic wanted front) h.1 last)
      by (inr h) = free before c h.0 h.1

  free_step : (front : List ℕ) (q r : Reading) (b : ℕ) → run number logic (start wanted) front ≡ on q → next number logic q b ≡ on r → limit_of q r ≡ None → IsFree text number logic wanted front b
  free_step front q r b e h l =
      record { begins = begins (front ++ b ∷ []) r (one_more front q b e ∙ h); before = q; behind = r; leads = e; goes = one_more front q b e ∙ h; within = l }

  told_at_end : (front : List ℕ) (q : Reading) → run number logic (start wanted) front ≡ on q → AreFree front → (code : Code) (at place : ℕ) → length front ≡ at → (m : Next) → next number logic q 10 ≡ m → outcome_at_end at m ≡ refused code place
      → IsRefused text number logic wanted (front ++ []) code place
  told_at_end front q e free code at place l (on r) h same =
      let c : Unexpected ≡ code = cc in let p : at ≡ place = cc in
      record { front = front; rest = []; parts = refl; at = l ∙ p; reading = q; leads = e; begins = begins front q e; earlier = free; told = (sym c, λ t. subst IsWhole h (text_ends front q e t)) }
  told_at_end front q e free code at place l (whole_term t) h same = cc
  told_at_end front q e free code at place l (whole_formula f) h same = cc
  told_at_end front q e free code at place l wrong h same =
      let c : Unexpected ≡ code = cc in let p : at ≡ place = cc in
      record { front = front; rest = []; parts = refl; at = l ∙ p; reading = q; leads = e; begins = begins front q e; earlier = free; told = (sym c, λ t. subst IsWhole h (text_ends front q e t)) }

  -- whether the byte goes on, by what is told of it
  goes_on : (front : List ℕ) (q : Reading) (b : ℕ) → run number logic (start wanted) front ≡ on q → (m : Next) → next number logic q b ≡ m → (code : Code) → fault_inside q m ≡ Some code
      → (code ≡ Unexpected → ¬ (BeginsText text number logic wanted (front ++ b ∷ []))) × (¬ (code ≡ Unexpected) → BeginsText text number logic wanted (front ++ b ∷ []))
  goes_on front q b e (on r) h code f =
      (λ c _. limit_is_other q r (f ∙ ap Some c), λ _. (on_begins text number back logic wanted (front ++ b ∷ [])).0 (subst IsOn (sym (one_more front q b e ∙ h)) tt))
  goes_on front q b e (whole_term t) h code f = (λ _ begun. subst IsOn (one_more front q b e ∙ h) ((on_begins text number back logic wanted (front ++ b ∷ [])).1 begun), λ n. absurd (n (let c : Unexpected ≡ code = cc in sym c)))
  goes_on front q b e (whole_formula g) h code f = (λ _ begun. subst IsOn (one_more front q b e ∙ h) ((on_begins text number back logic wanted (front ++ b ∷ [])).1 begun), λ n. absurd (n (let c : Unexpected ≡ code = cc in sym c)))
  goes_on front q b e wrong h code f = (λ _ begun. subst IsOn (one_more front q b e ∙ h) ((on_begins text number back logic wanted (front ++ b ∷ [])).1 begun), λ n. absurd (n (let c : Unexpected ≡ code = cc in sym c)))

  told_inside : (front : List ℕ) (q : Reading) (b : ℕ) (bs : List ℕ) → run number logic (start wanted) front ≡ on q → AreFree front → (code : Code) (at place : ℕ) → length front ≡ at → (m : Next) → next number logic q b ≡ m
      → (rec : (r : Reading) → m ≡ on r → limit_of q r ≡ None → outcome number logic (on r) (suc at) bs ≡ refused code place → IsRefused text number logic wanted ((front ++ b ∷ []) ++ bs) code place)
      → (f : Option Code) → fault_inside q m ≡ f → unless_refused f at (outcome number logic m (suc at) bs) ≡ refused code place → IsRefused text number logic wanted (front ++ b ∷ bs) code place
  told_inside front q b bs e free code at place l m h rec (Some c) f same =
      let s : c ≡ code = cc in let p : at ≡ place = cc in
      let fault : fault_inside q m ≡ Some code = f ∙ ap Some s in
      record { front = front; rest = b ∷ bs; parts = refl; at = l ∙ p; reading = q; leads = e; begins = begins front q e; earlier = free; told = (let g = goes_on front q b e m h code fault in (ap (fault_inside q) h ∙ fault, g.0, g.1)) }
  told_inside front q b bs e free code at place l (on r) h rec None f same = subst (λ v. IsRefused text number logic wanted v code place) (append_assoc front (b ∷ []) bs) (rec r refl f same)
  told_inside front q b bs e free code at place l (whole_term t) h rec None f same = cc
  told_inside front q b bs e free code at place l (whole_formula g) h rec None f same = cc
  told_inside front q b bs e free code at place l wrong h rec None f same = cc

  told : (bs front : List ℕ) (q : Reading) → run number logic (start wanted) front ≡ on q → AreFree front → (code : Code) (at place : ℕ) → length front ≡ at → outcome number logic (on q) at bs ≡ refused code place → IsRefused text number logic wanted (front ++ bs) code place
  told [] front q e free code at place l same = told_at_end front q e free code at place l (next number logic q 10) refl same
  told (b ∷ bs) front q e free code at place l same =
      told_inside front q b bs e free code at place l (next number logic q b) refl
      (λ r h w. told bs (front ++ b ∷ []) r (one_more front q b e ∙ h) (free_more front b free (free_step front q r b e h w)) code (suc at) place (longer ∙ ap suc l))
      (fault_inside q (next number logic q b)) refl same
    where
      longer : length (front ++ b ∷ []) ≡ suc (length front)
      longer = let s = length-append front (b ∷ []) in omega arith

  -- the bytes lead from one reading to another, and nothing is told of any of them
  passes : (front : List ℕ) (done : List ℕ) (q r : Reading) → run number logic (start wanted) done ≡ on q → AreFree (done ++ front) → run number logic (start wanted) (done ++ front) ≡ on r → (at : ℕ) (rest : List ℕ)
      → outcome number logic (on q) at (front ++ rest) ≡ outcome number logic (on r) (at + length front) rest
  passes [] done q r e free leads at rest =
      let same : on q ≡ on r = sym e ∙ ap (run number logic (start wanted)) (sym (append-nil done)) ∙ leads in
      let s : at ≡ at + 0 = omega arith in
      ap (λ n. outcome number logic n at rest) same ∙ ap (λ n. outcome number logic (on r) n rest) s
  passes (b ∷ front) done q r e free leads at rest =
      let one = free done b front refl in
      let first : on one.before ≡ on q = sym one.leads ∙ e in
      let same : one.before ≡ q = cc in
      let step : next number logic q b ≡ on one.behind = sym (one_more done q b e) ∙ one.goes in
      let fault : limit_of q one.behind ≡ None = subst (λ v. limit_of v one.behind ≡ None) same one.within in
      let assoc : done ++ b ∷ front ≡ (done ++ b ∷ []) ++ front = sym (append_assoc done (b ∷ []) front) in
      let rec = passes front (done ++ b ∷ []) one.behind r one.goes (subst AreFree assoc free) (ap (run number logic (start wanted)) (sym assoc) ∙ leads) (suc at) rest in
      let s : suc at + length front ≡ at + suc (length front) = omega arith in
      ap (λ n. unless_refused (fault_inside q n) at (outcome number logic n (suc at) (front ++ rest))) step
      ∙ ap (λ c. unless_refused c at (outcome number logic (on one.behind) (suc at) (front ++ rest))) fault
      ∙ rec ∙ ap (λ n. outcome number logic (on r) n rest) s

  dead : (m : Next) → IsWhole m → (b : ℕ) (bs : List ℕ) → IsGoing (run number logic m (b ∷ bs)) → ⊥
  dead (on q) w b bs h = w
  dead (whole_term t) w b bs h = subst IsGoing (stays_wrong number logic bs) h
  dead (whole_formula f) w b bs h = subst IsGoing (stays_wrong number logic bs) h
  dead wrong w b bs h = w

  IsWhole-going : (m : Next) → IsWhole m → IsGoing m
  IsWhole-going (on q) w = absurd w
  IsWhole-going (whole_term t) w = tt
  IsWhole-going (whole_formula f) w = tt
  IsWhole-going wrong w = absurd w

  -- what the end of a line makes whole is a text
  whole_is_text : (front : List ℕ) (q : Reading) → run number logic (start wanted) front ≡ on q → (m : Next) → next number logic q 10 ≡ m → IsWhole m → IsText text number logic wanted front
  whole_is_text front q e m h w =
      let begun = (going_begins text number back logic wanted (front ++ 10 ∷ [])).0 (subst IsGoing (sym leads) (IsWhole-going m w)) in by begun.0 begun.1
    where
      leads : run number logic (start wanted) (front ++ 10 ∷ []) ≡ m
      leads = one_more front q 10 e ∙ h

      by : (more : List ℕ) → IsLine text number logic wanted ((front ++ 10 ∷ []) ++ more) → IsText text number logic wanted front
      by [] line = text_from_line text number logic wanted front 10 (subst (IsLine text number logic wanted) (append-nil (front ++ 10 ∷ [])) line)
      by (c ∷ cs) line =
          let same = run-append number logic (start wanted) (front ++ 10 ∷ []) (c ∷ cs) ∙ ap (λ n. run number logic n (c ∷ cs)) leads in
          absurd (dead m w c cs (subst IsGoing same (line_goes text number logic wanted ((front ++ 10 ∷ []) ++ c ∷ cs) line)))

  refused_at_end : (front : List ℕ) (q : Reading) → run number logic (start wanted) front ≡ on q → ¬ (IsText text number logic wanted front) → (place : ℕ) (m : Next) → next number logic q 10 ≡ m → outcome_at_end place m ≡ refused Unexpected place
  refused_at_end front q e no_text place (on r) h = refl
  refused_at_end front q e no_text place (whole_term t) h = absurd (no_text (whole_is_text front q e (whole_term t) h tt))
  refused_at_end front q e no_text place (whole_formula f) h = absurd (no_text (whole_is_text front q e (whole_formula f) h tt))
  refused_at_end front q e no_text place wrong h = refl

  -- what is told is the outcome
  refused_so : (q : Reading) → start wanted ≡ on q → (bytes : List ℕ) (code : Code) (place : ℕ) → IsRefused text number logic wanted bytes code place → outcome number logic (on q) 0 bytes ≡ refused code place
  refused_so q begun bytes code place h =
      let s : 0 + length h.front ≡ place = let l = h.at in omega arith in
      ap (outcome number logic (on q) 0) h.parts
      ∙ passes h.front [] q h.reading begun h.earlier h.leads 0 h.rest
      ∙ ap (λ n. outcome number logic (on h.reading) n h.rest) s
      ∙ last h.rest h.told
    where
      last : (rest : List ℕ) → IsTold text number logic wanted h.reading h.front code rest → outcome number logic (on h.reading) place rest ≡ refused code place
      last [] t = refused_at_end h.front h.reading h.leads t.1 place (next number logic h.reading 10) refl ∙ ap (λ c. refused c place) (sym t.0)
      last (b ∷ more) t = ap (λ c. unless_refused c place (outcome number logic (next number logic h.reading b) (suc place) more)) t.0

pub refusal_is_told : RefusalIsTold
refusal_is_told text number back logic of_term bytes code place =
    (told text number back logic of_term bytes [] _ refl (none_free text number back logic of_term) code 0 place refl, refused_so text number back logic of_term _ refl bytes code place)
refusal_is_told text number back logic of_formula bytes code place =
    (told text number back logic of_formula bytes [] _ refl (none_free text number back logic of_formula) code 0 place refl, refused_so text number back logic of_formula _ refl bytes code place)
