-- What a reader gives has its names in the table.
use Rattle.std.specs.Prelude.{◌≡◌, ℕ, zero, suc, ◌<◌, Bool, true, false, if◌then◌else◌, List, [], ◌∷◌, length, Some, slice_get, refl}
use Rattle.std.specs.Str.{bytes_eq}
use Rattle.std.specs.Cmp.Lexicographic.{bytes_decides}
use Rattle.std.proofs.Common.{ap, sym, ◌∙◌, subst, arith, inl, inr}
use Rattle.std.proofs.lemmas.Bool.{cases_Bool}
use Rattle.fpc_base.specs.Tokens.{is_one_of}
use Rattle.fpc_terms.specs.Name.{Agrees, AreDifferent, index_in}
use Rattle.fpc_terms.specs.Term.{Term, Args, app, arg}
use Rattle.fpc_terms.specs.Printing.{HasNamesBelow, HaveNamesBelow}
use Rattle.fpc_terms.specs.Written.{WrittenTerm, WrittenArgs, variable_word, application, no_words, words, term_meant, args_meant}
use Rattle.fpc_terms.proofs.Places.{is_one_of-got, got-index_in, index_in-different}

below-length : {X : Type 0} (xs : List X) (k : ℕ) (x : X) → slice_get xs k ≡ Some x → k < length xs
below-length [] k x e = let n : ⊥ = cc in absurd n
below-length (y ∷ ys) zero x e = omega arith
below-length (y ∷ ys) (suc k) x e = let h : k < length ys = below-length ys k x e in omega (arith, h)

-- another numbering, which gives one text the next number
abbrev moved : List (List ℕ) → List ℕ → List ℕ → ℕ
moved names x y = if bytes_eq x y then suc (index_in names x) else index_in names y

moved-here : (names : List (List ℕ)) (x : List ℕ) → moved names x x ≡ suc (index_in names x)
moved-here names x = ap (λ (b : Bool). if b then suc (index_in names x) else index_in names x) ((bytes_decides x x).1 refl)

moved-agrees : (names : List (List ℕ)) (x : List ℕ) → AreDifferent names → is_one_of names x ≡ false → Agrees (moved names x) names
moved-agrees names x d absent k text e =
    elim (cases_Bool (bytes_eq x text)) [
      | inl same ↦ absurd (let s : x ≡ text = (bytes_decides x text).0 same in
          let t : is_one_of names x ≡ true = is_one_of-got names k x (subst (λ (y : List ℕ). slice_get names k ≡ Some y) (sym s) e) in cc)
      | inr differs ↦ ap (λ (b : Bool). if b then suc (index_in names x) else index_in names text) differs ∙ index_in-different names k text d e
    ]

-- a text whose number all numberings agree on is one of the names
pub number-below : (names : List (List ℕ)) (x : List ℕ) → AreDifferent names → ((number : List ℕ → ℕ) → Agrees number names → number x ≡ index_in names x) → index_in names x < length names
number-below names x d h =
    elim (cases_Bool (is_one_of names x)) [
      | inl there ↦ below-length names (index_in names x) x (got-index_in names x there)
      | inr absent ↦ absurd (let e : moved names x x ≡ index_in names x = h (moved names x) (moved-agrees names x d absent) in
          let n : suc (index_in names x) ≡ index_in names x = sym (moved-here names x) ∙ e in omega (arith, n))
    ]

app-name : (f g : ℕ) (ts us : Args) → app f ts ≡ app g us → f ≡ g
app-name f g ts us e = cc

app-args : (f g : ℕ) (ts us : Args) → app f ts ≡ app g us → ts ≡ us
app-args f g ts us e = cc

arg-first : (t u : Term) (ts us : Args) → arg t ts ≡ arg u us → t ≡ u
arg-first t u ts us e = cc

arg-rest : (t u : Term) (ts us : Args) → arg t ts ≡ arg u us → ts ≡ us
arg-rest t u ts us e = cc

module _ (names : List (List ℕ)) (d : AreDifferent names) (leaf : List ℕ → Term) (plain : (x : List ℕ) → HasNamesBelow (length names) (leaf x)) where
  mutual
    pub term-below : (w : WrittenTerm) → ((number : List ℕ → ℕ) → Agrees number names → term_meant number leaf w ≡ term_meant (index_in names) leaf w)
        → HasNamesBelow (length names) (term_meant (index_in names) leaf w)
    term-below (variable_word x) h = plain x
    term-below (application x ts) h = (
      number-below names x d (λ number a. app-name (number x) (index_in names x) (args_meant number leaf ts) (args_meant (index_in names) leaf ts) (h number a)),
      args-below ts (λ number a. app-args (number x) (index_in names x) (args_meant number leaf ts) (args_meant (index_in names) leaf ts) (h number a)),
    )

    pub args-below : (ts : WrittenArgs) → ((number : List ℕ → ℕ) → Agrees number names → args_meant number leaf ts ≡ args_meant (index_in names) leaf ts)
        → HaveNamesBelow (length names) (args_meant (index_in names) leaf ts)
    args-below no_words h = tt
    args-below (words t ts) h = (
      term-below t (λ number a. arg-first (term_meant number leaf t) (term_meant (index_in names) leaf t) (args_meant number leaf ts) (args_meant (index_in names) leaf ts) (h number a)),
      args-below ts (λ number a. arg-rest (term_meant number leaf t) (term_meant (index_in names) leaf t) (args_meant number leaf ts) (args_meant (index_in names) leaf ts) (h number a)),
    )

  pub told-below : (t : Term) (w : WrittenTerm) → Agrees (index_in names) names → ((number : List ℕ → ℕ) → Agrees number names → t ≡ term_meant number leaf w) → HasNamesBelow (length names) t
  told-below t w own h = rw (h (index_in names) own) (term-below w (λ number a. sym (h number a) ∙ h (index_in names) own))
