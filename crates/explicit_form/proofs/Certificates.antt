-- The reading goes on exactly where the bytes begin a certificate, and ends behind one.
use Rattle.std.proofs.Common.{◌≡◌, ℕ, Bool, true, false, if◌then◌else◌, ◌||◌, ◌⊎◌, inl, inr, List, [], ◌∷◌, ◌++◌, drop, length, refl, sym, ap, ◌∙◌, subst, nat_eq, append_assoc, append-nil}
use Rattle.std.specs.List.{starts_with}
use Rattle.std.specs.Str.{bytes_eq}
use Rattle.std.proofs.lemmas.Bool.{or_cases, both_ways}
use Rattle.std.proofs.lemmas.Bool.Decides.{Decides-eqb}
use Rattle.std.proofs.lemmas.Slice.Eq.{bytes_eq-Decides, starts_is}
use Rattle.polarised_formulas.specs.declared.logic.Logic.{Logic}
use Rattle.polarised_formulas.specs.declared.logic.Logic.TheVariants.{Lkf, Ljf}
use Rattle.polarised_formulas.specs.declared.step.Step.{Step}
use Rattle.polarised_formulas.specs.PlainForm.{GivesBack}
use Rattle.explicit_form.specs.StepText.{end_text, line_before, lines_before, header_word, header_text, certificate_text, ArePlainSteps, BeginsCertificate}
use Rattle.explicit_form.specs.StepReading.{in_word, Next, on, whole, last, wrong, next, State, heading, reading, ended, mistaken, stuck, start, other, next_heading, settle, go, run, steps_onto}
use Rattle.explicit_form.specs.StepLaws.{IsGoing, BeginsHeader, CertificateBegins, CertificateIsWhole, OtherCalculus, CertificateIsOne}
use Rattle.explicit_form.proofs.Lines.{begun_before, Spells, IsLive, IsLiveNext, Spells-next, live-next, complete}
use Rattle.explicit_form.proofs.Forward.{run-append, run-certificate}

-- the lines of steps, the last one first, before other bytes
abbrev pub done_before : (ℕ → List ℕ) → Logic → List Step → List ℕ → List ℕ
done_before text logic [] rest = rest
done_before text logic (s ∷ done) rest = done_before text logic done (line_before text logic s rest)

-- what was read has those bytes
abbrev pub HasRead : (ℕ → List ℕ) → Logic → State → (List ℕ → List ℕ) → Type 0
HasRead text logic (heading w) f = (rest : List ℕ) → w ++ rest ≡ f rest
HasRead text logic (reading done l) f = (rest : List ℕ) → header_text logic ++ done_before text logic done (begun_before text logic l rest) ≡ f rest
HasRead text logic (ended done) f = (rest : List ℕ) → header_text logic ++ done_before text logic done (end_text ++ rest) ≡ f rest
HasRead text logic mistaken f = (more : List ℕ) × ((rest : List ℕ) → header_word (other logic) ++ (more ++ rest) ≡ f rest)
HasRead text logic stuck f = Unit {0}

-- what was read is plain, and what was begun may become whole
abbrev pub LiveState : (ℕ → List ℕ) → (List ℕ → ℕ) → Logic → State → Type 0
LiveState text number logic (heading w) = (bytes_eq w (header_word (other logic)) ≡ false) × ((starts_with nat_eq (header_text logic) w || starts_with nat_eq (header_word (other logic)) w) ≡ true)
LiveState text number logic (reading done l) = ArePlainSteps text number logic done × IsLive text number logic l
LiveState text number logic (ended done) = ArePlainSteps text number logic done
LiveState text number logic mistaken = Unit {0}
LiveState text number logic stuck = Unit {0}

-- some bytes in front of others are those that begin with them
begun_so : (s p : List ℕ) → starts_with nat_eq s p ≡ true → s ≡ p ++ drop (length p) s
begun_so s p h = (starts_is Decides-eqb s p _ refl).0 h

module _ (text : ℕ → List ℕ) (logic : Logic) where
  pub lines-onto : (done ss : List Step) (rest : List ℕ) → lines_before text logic (steps_onto done ss) rest ≡ done_before text logic done (lines_before text logic ss rest)
  lines-onto [] ss rest = refl
  lines-onto (s ∷ done) ss rest = lines-onto done (s ∷ ss) rest

  done-onto : (ss done : List Step) (rest : List ℕ) → done_before text logic (steps_onto ss done) rest ≡ done_before text logic done (lines_before text logic ss rest)
  done-onto [] done rest = refl
  done-onto (s ∷ ss) done rest = done-onto ss (s ∷ done) rest

pub plain-onto : (text : ℕ → List ℕ) (number : List ℕ → ℕ) (logic : Logic) (done ss : List Step) → ArePlainSteps text number logic done → ArePlainSteps text number logic ss → ArePlainSteps text number logic (steps_onto done ss)
plain-onto text number logic [] ss h k = k
plain-onto text number logic (s ∷ done) ss h k = plain-onto text number logic done (s ∷ ss) h.1 (h.0, k)

-- turned twice a list is as before
pub turned : (ss : List Step) → steps_onto (steps_onto ss []) [] ≡ ss
turned ss = by ss []
  where
    by : (ss done : List Step) → steps_onto (steps_onto ss done) [] ≡ steps_onto done ss
    by [] done = refl
    by (s ∷ ss) done = by ss (s ∷ done)

same_ended : (a b : List Step) → ended a ≡ ended b → a ≡ b
same_ended a b e = cc

pub certificate_is_one : CertificateIsOne
certificate_is_one text number logic ss us p q e =
    let same = same_ended (steps_onto ss []) (steps_onto us []) (sym (run-certificate text number logic ss p) ∙ ap (run number logic start) e ∙ run-certificate text number logic us q) in
    sym (turned ss) ∙ ap (λ v. steps_onto v []) same ∙ turned us

module _ (text : ℕ → List ℕ) (number : List ℕ → ℕ) (back : GivesBack text number) (logic : Logic) where
  -- what was read is live, and has the bytes
  pub record Holds (st : State) (f : List ℕ → List ℕ) : Type 0 where
    pub alive : LiveState text number logic st
    pub spells : HasRead text logic st f

  heading-holds : (w : List ℕ) (f : List ℕ → List ℕ) → ((rest : List ℕ) → w ++ rest ≡ f rest) → Holds (next_heading logic w) f
  heading-holds w f h = first (bytes_eq w (header_text logic)) refl
    where
      begun : (c : Bool) → (starts_with nat_eq (header_text logic) w || starts_with nat_eq (header_word (other logic)) w) ≡ c → bytes_eq w (header_word (other logic)) ≡ false → Holds (if c then heading w else stuck) f
      begun true e o = record { alive = (o, e); spells = h }
      begun false e o = record { alive = tt; spells = tt }

      second : (c : Bool) → bytes_eq w (header_word (other logic)) ≡ c → Holds (if c then mistaken else if starts_with nat_eq (header_text logic) w || starts_with nat_eq (header_word (other logic)) w then heading w else stuck) f
      second true e = record { alive = tt; spells = ([], λ rest. ap (λ v. v ++ rest) (sym ((bytes_eq-Decides w (header_word (other logic))).0 e)) ∙ h rest) }
      second false e = begun (starts_with nat_eq (header_text logic) w || starts_with nat_eq (header_word (other logic)) w) refl e

      first : (c : Bool) → bytes_eq w (header_text logic) ≡ c
          → Holds (if c then reading [] (in_word []) else if bytes_eq w (header_word (other logic)) then mistaken else if starts_with nat_eq (header_text logic) w || starts_with nat_eq (header_word (other logic)) w then heading w else stuck) f
      first true e = record { alive = (tt, word_begun logic); spells = λ rest. ap (λ v. v ++ rest) (sym ((bytes_eq-Decides w (header_text logic)).0 e)) ∙ h rest }
        where
          word_begun : (l : Logic) → IsLive text number l (in_word [])
          word_begun Lkf = refl
          word_begun Ljf = refl
      first false e = second (bytes_eq w (header_word (other logic))) refl

  settle-holds : (done : List Step) (n : Next) (f g : List ℕ → List ℕ) → ArePlainSteps text number logic done → IsLiveNext text number logic n → Spells text logic n f → ((rest : List ℕ) → header_text logic ++ done_before text logic done (f rest) ≡ g rest) → Holds (settle done n) g
  settle-holds done (on l) f g p live s e = record { alive = (p, live); spells = λ rest. ap (λ v. header_text logic ++ done_before text logic done v) (s rest) ∙ e rest }
  settle-holds done (whole x) f g p live s e = record { alive = ((live, p), word_begun logic); spells = λ rest. ap (λ v. header_text logic ++ done_before text logic done v) (s rest) ∙ e rest }
    where
      word_begun : (l : Logic) → IsLive text number l (in_word [])
      word_begun Lkf = refl
      word_begun Ljf = refl
  settle-holds done last f g p live s e = record { alive = p; spells = λ rest. ap (λ v. header_text logic ++ done_before text logic done v) (s rest) ∙ e rest }
  settle-holds done wrong f g p live s e = record { alive = tt; spells = tt }

  pub Holds-go : (st : State) (b : ℕ) (f : List ℕ → List ℕ) → Holds st f → Holds (go number logic st b) (λ rest. f (b ∷ rest))
  Holds-go (heading w) b f h = heading-holds (w ++ b ∷ []) _ (λ rest. append_assoc w (b ∷ []) rest ∙ h.spells (b ∷ rest))
  Holds-go (reading done l) b f h =
      settle-holds done (next number logic l b) _ _ h.alive.0 (live-next text number logic back l b h.alive.1) (Spells-next text logic number back l b h.alive.1) (λ rest. h.spells (b ∷ rest))
  Holds-go (ended done) b f h = record { alive = tt; spells = tt }
  Holds-go mistaken b f h = record { alive = tt; spells = (h.spells.0 ++ b ∷ [], λ rest. ap (λ v. header_word (other logic) ++ v) (append_assoc h.spells.0 (b ∷ []) rest) ∙ h.spells.1 (b ∷ rest)) }
  Holds-go stuck b f h = record { alive = tt; spells = tt }

  Holds-run : (bs : List ℕ) (st : State) (f : List ℕ → List ℕ) → Holds st f → Holds (run number logic st bs) (λ rest. f (bs ++ rest))
  Holds-run [] st f h = h
  Holds-run (b ∷ bs) st f h = Holds-run bs (go number logic st b) (λ rest. f (b ∷ rest)) (Holds-go st b f h)

  pub Holds-start : Holds start (λ rest. rest)
  Holds-start = record { alive = by logic; spells = λ rest. refl }
    where
      by : (l : Logic) → LiveState text number l start
      by Lkf = (refl, refl)
      by Ljf = (refl, refl)

  pub holds : (bytes : List ℕ) → Holds (run number logic start bytes) (λ rest. bytes ++ rest)
  holds bytes = Holds-run bytes start (λ rest. rest) Holds-start

  header-begins : (w bytes : List ℕ) → Holds (heading w) (λ rest. bytes ++ rest) → BeginsCertificate text number logic bytes ⊎ BeginsHeader (other logic) bytes
  header-begins w bytes h = by (or_cases (starts_with nat_eq (header_text logic) w) (starts_with nat_eq (header_word (other logic)) w) h.alive.1)
    where
      part : (more : List ℕ) → header_word (other logic) ≡ w ++ more → BeginsHeader (other logic) bytes
      part [] e = absurd (both_ways (bytes_eq w (header_word (other logic))) h.alive.0 ((bytes_eq-Decides w (header_word (other logic))).1 (sym (append-nil w) ∙ sym e)))
      part (b ∷ more) e = (b, (more, e ∙ h.spells (b ∷ more)))

      by : (starts_with nat_eq (header_text logic) w ≡ true) ⊎ (starts_with nat_eq (header_word (other logic)) w ≡ true) → BeginsCertificate text number logic bytes ⊎ BeginsHeader (other logic) bytes
      by (inl s) =
          let rest = drop (length w) (header_text logic) ++ end_text in
          inl (record { steps = []; more = rest; plain = tt; whole = ap (λ v. v ++ end_text) (begun_so (header_text logic) w s) ∙ append_assoc w (drop (length w) (header_text logic)) end_text ∙ h.spells rest })
      by (inr s) = inr (part (drop (length w) (header_word (other logic))) (begun_so (header_word (other logic)) w s))

  Holds-begins : (st : State) (bytes : List ℕ) → Holds st (λ rest. bytes ++ rest) → IsGoing st → BeginsCertificate text number logic bytes ⊎ BeginsHeader (other logic) bytes
  Holds-begins (heading w) bytes h going = header-begins w bytes h
  Holds-begins (reading done l) bytes h going =
      let c = complete text number logic back l h.alive.1 in
      inl (record { steps = steps_onto done c.steps; more = c.more; plain = plain-onto text number logic done c.steps h.alive.0 c.plain; whole = ap (λ v. header_text logic ++ v) (lines-onto text logic done c.steps end_text ∙ ap (done_before text logic done) c.whole) ∙ h.spells c.more })
  Holds-begins (ended done) bytes h going =
      inl (record { steps = steps_onto done []; more = []; plain = plain-onto text number logic done [] h.alive tt; whole = ap (λ v. header_text logic ++ v) (lines-onto text logic done [] end_text) ∙ h.spells [] })
  Holds-begins mistaken bytes h going = absurd going
  Holds-begins stuck bytes h going = absurd going

module _ (number : List ℕ → ℕ) (logic : Logic) where
  stays_stuck : (bs : List ℕ) → run number logic stuck bs ≡ stuck
  stays_stuck [] = refl
  stays_stuck (b ∷ bs) = stays_stuck bs

  stays_mistaken : (bs : List ℕ) → run number logic mistaken bs ≡ mistaken
  stays_mistaken [] = refl
  stays_mistaken (b ∷ bs) = stays_mistaken bs

  pub going-front : (st : State) (bs : List ℕ) → IsGoing (run number logic st bs) → IsGoing st
  going-front (heading w) bs h = tt
  going-front (reading done l) bs h = tt
  going-front (ended done) bs h = tt
  going-front mistaken bs h = subst IsGoing (stays_mistaken bs) h
  going-front stuck bs h = subst IsGoing (stays_stuck bs) h

  -- the reading goes on before each of the bytes
  abbrev GoesThrough : State → List ℕ → Type 0
  GoesThrough st [] = Unit {0}
  GoesThrough st (b ∷ bs) = IsGoing st × GoesThrough (go number logic st b) bs

  goes-through : (st : State) (bs : List ℕ) (b : ℕ) (more : List ℕ) → GoesThrough st (bs ++ b ∷ more) → IsGoing (run number logic st bs)
  goes-through st [] b more h = h.0
  goes-through st (c ∷ bs) b more h = goes-through (go number logic st c) bs b more h.1

through-header : (number : List ℕ → ℕ) (logic : Logic) → GoesThrough number logic start (header_word (other logic))
through-header number Lkf = (tt, (tt, (tt, (tt, (tt, (tt, (tt, (tt, (tt, tt)))))))))
through-header number Ljf = (tt, (tt, (tt, (tt, (tt, (tt, (tt, (tt, (tt, tt)))))))))

pub certificate_begins : CertificateBegins
certificate_begins text number back logic bytes = (Holds-begins text number back logic (run number logic start bytes) bytes (holds text number back logic bytes), by)
  where
    by : BeginsCertificate text number logic bytes ⊎ BeginsHeader (other logic) bytes → IsGoing (run number logic start bytes)
    by (inl c) =
        going-front number logic (run number logic start bytes) c.more
        (subst IsGoing (sym (run-certificate text number logic c.steps c.plain) ∙ ap (run number logic start) c.whole ∙ run-append number logic start bytes c.more) tt)
    by (inr c) = goes-through number logic start bytes c.0 c.1.0 (subst (GoesThrough number logic start) c.1.1 (through-header number logic))

pub certificate_is_whole : CertificateIsWhole
certificate_is_whole text number back logic bytes steps = (forth, λ h. ap (run number logic start) (sym h.1) ∙ run-certificate text number logic steps h.0)
  where
    forth : run number logic start bytes ≡ ended (steps_onto steps []) → ArePlainSteps text number logic steps × (certificate_text text logic steps ≡ bytes)
    forth e =
        let h = subst (λ st. Holds text number back logic st (λ rest. bytes ++ rest)) e (holds text number back logic bytes) in
        (subst (ArePlainSteps text number logic) (turned steps) (plain-onto text number logic (steps_onto steps []) [] h.alive tt), ap (λ v. header_text logic ++ v) (sym (done-onto text logic steps [] end_text)) ∙ h.spells [] ∙ append-nil bytes)

-- what was read of the first line
abbrev Heard : Logic → State → (List ℕ → List ℕ) → Type 0
Heard logic (heading w) f = (rest : List ℕ) → w ++ rest ≡ f rest
Heard logic (reading done l) f = Unit {0}
Heard logic (ended done) f = Unit {0}
Heard logic mistaken f = (more : List ℕ) × ((rest : List ℕ) → header_word (other logic) ++ (more ++ rest) ≡ f rest)
Heard logic stuck f = Unit {0}

module _ (number : List ℕ → ℕ) (logic : Logic) where
  heard-heading : (w : List ℕ) (f : List ℕ → List ℕ) → ((rest : List ℕ) → w ++ rest ≡ f rest) → Heard logic (next_heading logic w) f
  heard-heading w f h = first (bytes_eq w (header_text logic))
    where
      begun : (c : Bool) → Heard logic (if c then heading w else stuck) f
      begun true = h
      begun false = tt

      second : (c : Bool) → bytes_eq w (header_word (other logic)) ≡ c → Heard logic (if c then mistaken else if starts_with nat_eq (header_text logic) w || starts_with nat_eq (header_word (other logic)) w then heading w else stuck) f
      second true e = ([], λ rest. ap (λ v. v ++ rest) (sym ((bytes_eq-Decides w (header_word (other logic))).0 e)) ∙ h rest)
      second false e = begun (starts_with nat_eq (header_text logic) w || starts_with nat_eq (header_word (other logic)) w)

      first : (c : Bool)
          → Heard logic (if c then reading [] (in_word []) else if bytes_eq w (header_word (other logic)) then mistaken else if starts_with nat_eq (header_text logic) w || starts_with nat_eq (header_word (other logic)) w then heading w else stuck) f
      first true = tt
      first false = second (bytes_eq w (header_word (other logic))) refl

  heard-settle : (done : List Step) (n : Next) (f : List ℕ → List ℕ) → Heard logic (settle done n) f
  heard-settle done (on l) f = tt
  heard-settle done (whole s) f = tt
  heard-settle done last f = tt
  heard-settle done wrong f = tt

  heard-go : (st : State) (b : ℕ) (f : List ℕ → List ℕ) → Heard logic st f → Heard logic (go number logic st b) (λ rest. f (b ∷ rest))
  heard-go (heading w) b f h = heard-heading (w ++ b ∷ []) _ (λ rest. append_assoc w (b ∷ []) rest ∙ h (b ∷ rest))
  heard-go (reading done l) b f h = heard-settle done (next number logic l b) _
  heard-go (ended done) b f h = tt
  heard-go mistaken b f h = (h.0 ++ b ∷ [], λ rest. ap (λ v. header_word (other logic) ++ v) (append_assoc h.0 (b ∷ []) rest) ∙ h.1 (b ∷ rest))
  heard-go stuck b f h = tt

  heard-run : (bs : List ℕ) (st : State) (f : List ℕ → List ℕ) → Heard logic st f → Heard logic (run number logic st bs) (λ rest. f (bs ++ rest))
  heard-run [] st f h = h
  heard-run (b ∷ bs) st f h = heard-run bs (go number logic st b) (λ rest. f (b ∷ rest)) (heard-go st b f h)

pub other_calculus : OtherCalculus
other_calculus number logic bytes = (forth, λ h. ap (run number logic start) (sym h.1) ∙ by logic h.0)
  where
    by : (l : Logic) (more : List ℕ) → run number l start (header_word (other l) ++ more) ≡ mistaken
    by Lkf more = stays_mistaken number Lkf more
    by Ljf more = stays_mistaken number Ljf more

    forth : run number logic start bytes ≡ mistaken → (more : List ℕ) × (header_word (other logic) ++ more ≡ bytes)
    forth e =
        let h = subst (λ st. Heard logic st (λ rest. bytes ++ rest)) e (heard-run number logic bytes start (λ rest. rest) (λ rest. refl)) in
        (h.0, ap (λ v. header_word (other logic) ++ v) (sym (append-nil h.0)) ∙ h.1 [] ∙ append-nil bytes)
