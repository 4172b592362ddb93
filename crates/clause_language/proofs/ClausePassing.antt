-- The limits let the machine of files pass the tokens of a clause, and of a certificate's term, exactly where they are small.
use Rattle.std.proofs.Common.{◌≡◌, ℕ, ◌≤◌, Bool, true, false, List, [], ◌∷◌, ◌++◌, length, refl, ap, sym, subst, arith, append_assoc, Option, Some, None, Result, Ok}
use Rattle.fpc_base.specs.declared.refusal.Code.{Code}
use Rattle.fpc_base.specs.declared.tokens.lexeme.Sign.TheVariants as sign
use Rattle.fpc_base.specs.Lexeme.{Lexeme, a_name, a_sign}
use Rattle.fpc_terms.specs.Written.{WrittenTerm, application, no_words, term_tokens, args_tokens, variables_in}
use Rattle.fpc_terms.specs.Spot.{Spot, alone, in_arguments, in_term as in_a_term}
use Rattle.fpc_terms.specs.Machine as term
use Rattle.fpc_terms.specs.ReadTerm.{any_variable}
use Rattle.fpc_terms.proofs.TermLaws.{IsBehind}
use Rattle.polarised_formulas.specs.declared.logic.Logic.{Logic}
use Rattle.polarised_formulas.proofs.Small.{IsSmall, AreSmall}
use Rattle.polarised_formulas.proofs.ProblemLaws.{term-dot}
use Rattle.clause_language.specs.declared.file.FileKind.{FileKind}
use Rattle.clause_language.specs.declared.file.FileKind.TheVariants.{Definition, Certificate}
use Rattle.clause_language.specs.Written.{WrittenAtom, WrittenClause, WrittenItem, a_clause, more_atom_tokens, body_tokens, clause_tokens}
use Rattle.clause_language.specs.Limits.{AtomPlace, at_head, in_body}
use Rattle.clause_language.specs.ClauseMachine.{ClauseState, in_atom, whole_atom, clause_of, gone_on, gone_on_within}
use Rattle.clause_language.specs.FileMachine.{FileState, within, at_item, in_clause, in_term, finished, claused, claused_within, read_on, read_within, begun, step, limited}
use Rattle.clause_language.proofs.VariableOrder.{texts_to_all}
use Rattle.clause_language.proofs.TermPassing.{IsAtMost-less, texts_to_all-longer, Embeds, pass-term, pass-named, passed-term, passed-named}
use Rattle.clause_language.proofs.Sizes.{atoms_as_words, written_atoms, texts_of_clause}

-- the machine passes the tokens within the limits, from one state to another
abbrev pub Passes : FileKind → Option Logic → List (List ℕ) → FileState → List Lexeme → FileState → Type 0
Passes kind expected earlier s [] t = s ≡ t
Passes kind expected earlier s (c ∷ cs) t = (limited kind expected earlier s c ≡ Ok (step kind s c)) × Passes kind expected earlier (step kind s c) cs t

-- a name behind which no parenthesis stands is a term
whole-named : (y : List ℕ) (s : Spot) → whole_atom (term.named y s) ≡ whole_atom (term.has (application y no_words) s)
whole-named y alone = refl
whole-named y (in_arguments done) = refl
whole-named y (in_a_term x done s) = refl

-- a live step of the term is one of the atom
gone_on-live : (p : AtomPlace) (vs : List (List ℕ)) (whole : Option WrittenAtom) (c : Lexeme) (t : term.TermState) → term.IsLive t
    → gone_on p vs whole c t ≡ in_atom p (variables_in (c ∷ []) vs) t
gone_on-live p vs whole c term.stuck live = absurd live
gone_on-live p vs whole c _ live = refl

within-live : (p : AtomPlace) (vs : List (List ℕ)) (whole : Option WrittenAtom) (c : Lexeme) (t : term.TermState) → term.IsLive t
    → gone_on_within p vs whole c (term.within false false t) ≡ Ok (in_atom p (variables_in (c ∷ []) vs) t)
within-live p vs whole c term.stuck live = absurd live
within-live p vs whole c _ live = refl

within-tests : (logic : Logic) (items : List WrittenItem) (p : AtomPlace) (vs : List (List ℕ)) (whole : Option WrittenAtom) (c : Lexeme) (full many : Bool) (t : term.TermState) (u : FileState)
    → term.IsLive t → claused_within logic items (gone_on_within p vs whole c (term.within full many t)) ≡ Ok u → (full ≡ false) × (many ≡ false)
within-tests logic items p vs whole c full many term.stuck u live h = absurd live
within-tests logic items p vs whole c true many t u live h = cc
within-tests logic items p vs whole c false true t u live h = cc
within-tests logic items p vs whole c false false t u live h = (refl, refl)

read-tests : (logic : Logic) (items : List WrittenItem) (full many : Bool) (t : term.TermState) (u : FileState)
    → term.IsLive t → read_within logic items (term.within full many t) ≡ Ok u → (full ≡ false) × (many ≡ false)
read-tests logic items full many term.stuck u live h = absurd live
read-tests logic items true many t u live h = cc
read-tests logic items false true t u live h = cc
read-tests logic items false false t u live h = (refl, refl)

read_within-live : (logic : Logic) (items : List WrittenItem) (t : term.TermState) → term.IsLive t → read_within logic items (term.within false false t) ≡ Ok (in_term logic items t)
read_within-live logic items term.stuck live = absurd live
read_within-live logic items _ live = refl

read_on-live : (logic : Logic) (items : List WrittenItem) (t : term.TermState) → term.IsLive t → read_on logic items t ≡ in_term logic items t
read_on-live logic items term.stuck live = absurd live
read_on-live logic items _ live = refl

module _ (kind : FileKind) (expected : Option Logic) (earlier : List (List ℕ)) (goal : FileState) (logic : Logic) (items : List WrittenItem) where
  -- a state within an atom
  abbrev pub InAtom : AtomPlace → List (List ℕ) → term.TermState → List Lexeme → Type 0
  InAtom p vs t cs = Passes kind expected earlier (in_clause logic items (in_atom p vs t)) cs goal

  abbrev To : FileState → List Lexeme → Type 0
  To s cs = Passes kind expected earlier s cs goal

  atom-go : (p : AtomPlace) (vs : List (List ℕ)) (t : term.TermState) (c : Lexeme) (cs : List Lexeme) → term.IsLive (term.step any_variable t c)
      → term.is_full (term.step any_variable t c) ≡ false → term.is_too_many (Some 255) vs c ≡ false
      → InAtom p (variables_in (c ∷ []) vs) (term.step any_variable t c) cs → InAtom p vs t (c ∷ cs)
  atom-go p vs t c cs live full many h =
      let u : term.TermState = term.step any_variable t c in
      let next : gone_on p vs (whole_atom t) c u ≡ in_atom p (variables_in (c ∷ []) vs) u = gone_on-live p vs (whole_atom t) c u live in
      let taken : gone_on_within p vs (whole_atom t) c (term.within (term.is_full u) (term.is_too_many (Some 255) vs c) u) ≡ Ok (in_atom p (variables_in (c ∷ []) vs) u) =
      rw (full, many) (within-live p vs (whole_atom t) c u live) in
      let F : ClauseState → Type 0 = λ s.
      (claused_within logic items (gone_on_within p vs (whole_atom t) c (term.within (term.is_full u) (term.is_too_many (Some 255) vs c) u)) ≡ Ok (claused logic items s))
      × To (claused logic items s) cs in
      subst F (sym next) (ap (claused_within logic items) taken, h)

  atom-gone : (p : AtomPlace) (vs : List (List ℕ)) (t : term.TermState) (c : Lexeme) (cs : List Lexeme) → term.IsLive (term.step any_variable t c)
      → InAtom p vs t (c ∷ cs)
      → (term.is_full (term.step any_variable t c) ≡ false) × (term.is_too_many (Some 255) vs c ≡ false) × InAtom p (variables_in (c ∷ []) vs) (term.step any_variable t c) cs
  atom-gone p vs t c cs live h =
      let u : term.TermState = term.step any_variable t c in
      let next : gone_on p vs (whole_atom t) c u ≡ in_atom p (variables_in (c ∷ []) vs) u = gone_on-live p vs (whole_atom t) c u live in
      let tests = within-tests logic items p vs (whole_atom t) c (term.is_full u) (term.is_too_many (Some 255) vs c) u (claused logic items (gone_on p vs (whole_atom t) c u)) live h.0 in
      (tests.0, tests.1, subst (λ s. To (claused logic items s) cs) next h.1)

  atom-name_on : (p : AtomPlace) (vs : List (List ℕ)) (y : List ℕ) (s : Spot) (rest : List Lexeme) → IsBehind rest
      → InAtom p vs (term.has (application y no_words) s) rest → InAtom p vs (term.named y s) rest
  atom-name_on p vs y s [] b h = absurd b
  atom-name_on p vs y s (a_sign sign.OpenParenthesis ∷ rest) b h = absurd b
  atom-name_on p vs y s (c ∷ rest) b h =
      let u : term.TermState = term.behind (application y no_words) s c in
      let F : Option WrittenAtom → Type 0 = λ whole.
      (claused_within logic items (gone_on_within p vs whole c (term.within (term.is_full u) (term.is_too_many (Some 255) vs c) u)) ≡ Ok (claused logic items (gone_on p vs whole c u)))
      × To (claused logic items (gone_on p vs whole c u)) rest in
      subst F (sym (whole-named y s)) h

  atom-name_gone : (p : AtomPlace) (vs : List (List ℕ)) (y : List ℕ) (s : Spot) (rest : List Lexeme) → IsBehind rest
      → InAtom p vs (term.named y s) rest → InAtom p vs (term.has (application y no_words) s) rest
  atom-name_gone p vs y s [] b h = absurd b
  atom-name_gone p vs y s (a_sign sign.OpenParenthesis ∷ rest) b h = absurd b
  atom-name_gone p vs y s (c ∷ rest) b h =
      let u : term.TermState = term.behind (application y no_words) s c in
      let F : Option WrittenAtom → Type 0 = λ whole.
      (claused_within logic items (gone_on_within p vs whole c (term.within (term.is_full u) (term.is_too_many (Some 255) vs c) u)) ≡ Ok (claused logic items (gone_on p vs whole c u)))
      × To (claused logic items (gone_on p vs whole c u)) rest in
      subst F (whole-named y s) h

  in-atom : (p : AtomPlace) → Embeds (Some 255) (InAtom p)
  in-atom p = record { go = atom-go p; gone = atom-gone p; name_on = atom-name_on p; name_gone = atom-name_gone p }

  more-behind : (more : List WrittenAtom) (rest : List Lexeme) → IsBehind (more_atom_tokens more rest)
  more-behind [] rest = tt
  more-behind (a ∷ more) rest = tt

  body-behind : (body : List WrittenAtom) (rest : List Lexeme) → IsBehind (body_tokens body rest)
  body-behind [] rest = tt
  body-behind (a ∷ more) rest = tt

  abbrev Behind : WrittenAtom → List WrittenAtom → List Lexeme → Type 0
  Behind head body rest = To (at_item logic (items ++ a_clause (clause_of head body) ∷ [])) rest

  -- the atoms behind one of the body
  pass-atoms : (head : WrittenAtom) (done : List WrittenAtom) (a : WrittenAtom) (more : List WrittenAtom) (vs : List (List ℕ)) (rest : List Lexeme) → AreSmall (atoms_as_words more)
      → length (texts_to_all (atoms_as_words more) vs) ≤ 255 → Behind head (done ++ a ∷ more) rest
      → InAtom (in_body head done) vs (term.has (application a.text a.args) alone) (more_atom_tokens more rest)
  pass-atoms head done a [] vs rest small le h = (refl, h)
  pass-atoms head done a (b ∷ more) vs rest small le h =
      let us : List (List ℕ) = texts_to_all b.args vs in
      let later : Behind head ((done ++ a ∷ []) ++ b ∷ more) rest = subst (λ l. Behind head l rest) (sym (append_assoc done (a ∷ []) (b ∷ more))) h in (
        refl,
        (
          refl,
          pass-named (Some 255) (InAtom (in_body head (done ++ a ∷ []))) (in-atom (in_body head (done ++ a ∷ []))) b.text b.args alone vs (more_atom_tokens more rest)
              (more-behind more rest) small.0.0 small.0.1
              (IsAtMost-less (Some 255) (length us) (length (texts_to_all (atoms_as_words more) us)) (texts_to_all-longer (atoms_as_words more) us) le)
              (pass-atoms head (done ++ a ∷ []) b more us rest small.1 le later),
        ),
      )

  pass-body : (head : WrittenAtom) (body : List WrittenAtom) (vs : List (List ℕ)) (rest : List Lexeme) → AreSmall (atoms_as_words body)
      → length (texts_to_all (atoms_as_words body) vs) ≤ 255 → Behind head body rest
      → InAtom at_head vs (term.has (application head.text head.args) alone) (body_tokens body rest)
  pass-body head [] vs rest small le h = (refl, h)
  pass-body head (b ∷ more) vs rest small le h =
      let us : List (List ℕ) = texts_to_all b.args vs in (
        refl,
        (
          refl,
          pass-named (Some 255) (InAtom (in_body head [])) (in-atom (in_body head [])) b.text b.args alone vs (more_atom_tokens more rest)
              (more-behind more rest) small.0.0 small.0.1
              (IsAtMost-less (Some 255) (length us) (length (texts_to_all (atoms_as_words more) us)) (texts_to_all-longer (atoms_as_words more) us) le)
              (pass-atoms head [] b more us rest small.1 le h),
        ),
      )

  first-name : (k : FileKind) (x : List ℕ) → begun k logic items (a_name x) ≡ in_clause logic items (in_atom at_head [] (term.named x alone))
  first-name Definition x = refl
  first-name Certificate x = refl

  -- a clause within the limits passes
  pub pass-clause : (c : WrittenClause) (rest : List Lexeme) → AreSmall (written_atoms c) → length (texts_of_clause c) ≤ 255
      → Behind c.head c.body rest → To (at_item logic items) (clause_tokens c rest)
  pass-clause c rest small le h =
      let us : List (List ℕ) = texts_to_all c.head.args [] in
      let inner : InAtom at_head [] (term.named c.head.text alone) (args_tokens c.head.args (body_tokens c.body rest)) =
      pass-named (Some 255) (InAtom at_head) (in-atom at_head) c.head.text c.head.args alone [] (body_tokens c.body rest) (body-behind c.body rest) small.0.0 small.0.1
      (IsAtMost-less (Some 255) (length us) (length (texts_to_all (atoms_as_words c.body) us)) (texts_to_all-longer (atoms_as_words c.body) us) le)
      (pass-body c.head c.body us rest small.1 le h) in
      let F : FileState → Type 0 = λ s. (clause_within s ≡ Ok s) × To s (args_tokens c.head.args (body_tokens c.body rest)) in
      subst F (sym (first-name kind c.head.text)) (refl, inner)
    where
      clause_within : FileState → Result FileState Code
      clause_within s = within s

  -- what passes of the atoms is within the limits
  passed-atoms : (head : WrittenAtom) (done : List WrittenAtom) (a : WrittenAtom) (more : List WrittenAtom) (vs : List (List ℕ)) (rest : List Lexeme) → length vs ≤ 255
      → InAtom (in_body head done) vs (term.has (application a.text a.args) alone) (more_atom_tokens more rest)
      → AreSmall (atoms_as_words more) × (length (texts_to_all (atoms_as_words more) vs) ≤ 255) × Behind head (done ++ a ∷ more) rest
  passed-atoms head done a [] vs rest le h = (tt, le, h.1)
  passed-atoms head done a (b ∷ more) vs rest le h =
      let us : List (List ℕ) = texts_to_all b.args vs in
      let first = passed-named (Some 255) (InAtom (in_body head (done ++ a ∷ []))) (in-atom (in_body head (done ++ a ∷ []))) b.text b.args alone vs (more_atom_tokens more rest)
      (more-behind more rest) le h.1.1 in
      let later = passed-atoms head (done ++ a ∷ []) b more us rest first.2 first.3 in
      (((first.0, first.1), later.0), later.1, subst (λ l. Behind head l rest) (append_assoc done (a ∷ []) (b ∷ more)) later.2)

  passed-body : (head : WrittenAtom) (body : List WrittenAtom) (vs : List (List ℕ)) (rest : List Lexeme) → length vs ≤ 255
      → InAtom at_head vs (term.has (application head.text head.args) alone) (body_tokens body rest)
      → AreSmall (atoms_as_words body) × (length (texts_to_all (atoms_as_words body) vs) ≤ 255) × Behind head body rest
  passed-body head [] vs rest le h = (tt, le, h.1)
  passed-body head (b ∷ more) vs rest le h =
      let us : List (List ℕ) = texts_to_all b.args vs in
      let first = passed-named (Some 255) (InAtom (in_body head [])) (in-atom (in_body head [])) b.text b.args alone vs (more_atom_tokens more rest)
      (more-behind more rest) le h.1.1 in
      let later = passed-atoms head [] b more us rest first.2 first.3 in
      (((first.0, first.1), later.0), later.1, later.2)

  pub passed-clause : (c : WrittenClause) (rest : List Lexeme) → To (at_item logic items) (clause_tokens c rest)
      → AreSmall (written_atoms c) × (length (texts_of_clause c) ≤ 255) × Behind c.head c.body rest
  passed-clause c rest h =
      let us : List (List ℕ) = texts_to_all c.head.args [] in
      let inner : InAtom at_head [] (term.named c.head.text alone) (args_tokens c.head.args (body_tokens c.body rest)) =
      subst (λ s. To s (args_tokens c.head.args (body_tokens c.body rest))) (first-name kind c.head.text) h.1 in
      let first = passed-named (Some 255) (InAtom at_head) (in-atom at_head) c.head.text c.head.args alone [] (body_tokens c.body rest) (body-behind c.body rest) (omega arith) inner in
      let later = passed-body c.head c.body us rest first.2 first.3 in
      (((first.0, first.1), later.0), later.1, later.2)

  -- the term of a certificate
  abbrev InTerm : List (List ℕ) → term.TermState → List Lexeme → Type 0
  InTerm vs t cs = To (in_term logic items t) cs

  term-go : (vs : List (List ℕ)) (t : term.TermState) (c : Lexeme) (cs : List Lexeme) → term.IsLive (term.step any_variable t c)
      → term.is_full (term.step any_variable t c) ≡ false → term.is_too_many None vs c ≡ false
      → InTerm (variables_in (c ∷ []) vs) (term.step any_variable t c) cs → InTerm vs t (c ∷ cs)
  term-go vs t (a_sign sign.Dot) cs live full many h = absurd (subst term.IsLive (term-dot any_variable t) live)
  term-go vs t c cs live full many h =
      let u : term.TermState = term.step any_variable t c in
      let taken : read_within logic items (term.within (term.is_full u) false u) ≡ Ok (in_term logic items u) = rw full (read_within-live logic items u live) in
      let F : FileState → Type 0 = λ s. (read_within logic items (term.within (term.is_full u) false u) ≡ Ok s) × To s cs in
      subst F (sym (read_on-live logic items u live)) (taken, h)

  term-gone : (vs : List (List ℕ)) (t : term.TermState) (c : Lexeme) (cs : List Lexeme) → term.IsLive (term.step any_variable t c)
      → InTerm vs t (c ∷ cs)
      → (term.is_full (term.step any_variable t c) ≡ false) × (term.is_too_many None vs c ≡ false) × InTerm (variables_in (c ∷ []) vs) (term.step any_variable t c) cs
  term-gone vs t (a_sign sign.Dot) cs live h = absurd (subst term.IsLive (term-dot any_variable t) live)
  term-gone vs t c cs live h =
      let u : term.TermState = term.step any_variable t c in
      let tests = read-tests logic items (term.is_full u) false u (read_on logic items u) live h.0 in
      (tests.0, refl, subst (λ s. To s cs) (read_on-live logic items u live) h.1)

  term-name_on : (vs : List (List ℕ)) (y : List ℕ) (s : Spot) (rest : List Lexeme) → IsBehind rest
      → InTerm vs (term.has (application y no_words) s) rest → InTerm vs (term.named y s) rest
  term-name_on vs y s [] b h = absurd b
  term-name_on vs y s (a_sign sign.OpenParenthesis ∷ rest) b h = absurd b
  term-name_on vs y s (a_sign sign.Dot ∷ rest) b h = dot y s h where
    dot : (y : List ℕ) (s : Spot) → InTerm vs (term.has (application y no_words) s) (a_sign sign.Dot ∷ rest) → InTerm vs (term.named y s) (a_sign sign.Dot ∷ rest)
    dot y alone h = h
    dot y (in_arguments done) h = h
    dot y (in_a_term x done s) h = h
  term-name_on vs y s (c ∷ rest) b h = h

  term-name_gone : (vs : List (List ℕ)) (y : List ℕ) (s : Spot) (rest : List Lexeme) → IsBehind rest
      → InTerm vs (term.named y s) rest → InTerm vs (term.has (application y no_words) s) rest
  term-name_gone vs y s [] b h = absurd b
  term-name_gone vs y s (a_sign sign.OpenParenthesis ∷ rest) b h = absurd b
  term-name_gone vs y s (a_sign sign.Dot ∷ rest) b h = dot y s h where
    dot : (y : List ℕ) (s : Spot) → InTerm vs (term.named y s) (a_sign sign.Dot ∷ rest) → InTerm vs (term.has (application y no_words) s) (a_sign sign.Dot ∷ rest)
    dot y alone h = h
    dot y (in_arguments done) h = h
    dot y (in_a_term x done s) h = h
  term-name_gone vs y s (c ∷ rest) b h = h

  in-term : Embeds None InTerm
  in-term = record { go = term-go; gone = term-gone; name_on = term-name_on; name_gone = term-name_gone }

  pub pass-last_term : (t : WrittenTerm) → IsSmall t → To (finished logic items t) []
      → To (in_term logic items (term.wants alone)) (term_tokens t (a_sign sign.Dot ∷ []))
  pass-last_term t small h = pass-term None InTerm in-term t alone [] (a_sign sign.Dot ∷ []) tt small tt (refl, h)

  pub passed-last_term : (t : WrittenTerm) → To (in_term logic items (term.wants alone)) (term_tokens t (a_sign sign.Dot ∷ []))
      → IsSmall t × To (finished logic items t) []
  passed-last_term t h = let p = passed-term None InTerm in-term t alone [] (a_sign sign.Dot ∷ []) tt tt h in (p.0, p.2.1)
