-- The answer to `verify` is one, and the one that the problem and the certificate call for.
use Rattle.std.proofs.Common.{◌∷◌, ◌≡◌, not, ℕ, ◌≤◌, List, [], ◌++◌, length, sym, ap, ◌∙◌, subst, arith, true}
use Rattle.std.proofs.lemmas.Bool.{and_parts}
use Rattle.fpc_base.specs.Lexeme.{items_of}
use Rattle.fpc_base.specs.Outside.{Outside, Content, Rose}
use Rattle.fpc_base.specs.Tokens.{is_word, is_one_of, keywords, HasForm}
use Rattle.fpc_base.specs.declared.tokens.TokenKind.TheVariants.{Name}
use Rattle.fpc_terms.specs.Name.{Agrees}
use Rattle.fpc_terms.specs.Written.{WrittenTerm, WrittenArgs, variable_word, application, no_words, words}
use Rattle.polarised_formulas.specs.EachName.{EachName, EachNameOf, EachNameIn}
use Rattle.polarised_formulas.specs.Formula.{Formula}
use Rattle.polarised_formulas.specs.Numbering.{number_in, text_in}
use Rattle.polarised_formulas.specs.PlainForm.{GivesBack, begins_name}
use Rattle.polarised_formulas.specs.ReadProblem.{ProblemIsRead}
use Rattle.polarised_formulas.specs.Spoken.{Says}
use Rattle.polarised_formulas.specs.Written.{WrittenFormula, true_unit, false_unit, literal, pair, bind, WrittenProblem, formula_meant}
use Rattle.polarised_formulas.specs.declared.logic.Logic.TheVariants.{Lkf}
use Rattle.polarised_formulas.proofs.Named.{EachName-said}
use Rattle.polarised_formulas.proofs.Numberings.{GivesBack-number_in, Agrees-number_in}
use Rattle.polarised_formulas.proofs.Passed.{IsRead-read}
use Rattle.polarised_formulas.proofs.ProblemReading.{problem-read_once}
use Rattle.explicit_kernel.specs.Judgment.{Judgment, Course, course_of, judgment}
use Rattle.fpc_cli.specs.declared.answer.Answer.{Answer}
use Rattle.fpc_cli.specs.declared.answer.Answer.TheVariants.{Accepted, Rejected, Refused, ReadFault, OutOfMemory}
use Rattle.fpc_cli.specs.declared.answer.Role.TheVariants.{Explicit}
use Rattle.fpc_cli.specs.Answer.{status_of}
use Rattle.fpc_cli.specs.Grammars.{IsProblemOf}
use Rattle.fpc_cli.specs.Held.{IsKnown, left_of}
use Rattle.fpc_cli.specs.Laws.{IsFound}
use Rattle.fpc_cli.specs.commands.Verify.{IsVerdict, IsCounted, VerifyEnds, EndsVerify, answer_due, VerifyIsDue, verify_task}
use Rattle.fpc_cli.proofs.Contents.{held-so, one-content}
use Rattle.fpc_cli.proofs.GrammarLaws.{lkf_problem-lawful}
use Rattle.fpc_cli.proofs.InputLaws.{IsLawfulTask}
use Rattle.fpc_cli.proofs.commands.VerifyFacts.{read-problem}

-- the judgment of a certificate depends on no numbers of names
abbrev pub NumbersDontMatter : Type 0
NumbersDontMatter = (text text' : ℕ → List ℕ) (number number' : List ℕ → ℕ) → GivesBack text number → GivesBack text' number' → (w : WrittenFormula) → EachNameIn (λ x. begins_name x ≡ true) w
    → (bytes : List ℕ) → judgment number (formula_meant number [] [] w) bytes ≡ judgment number' (formula_meant number' [] [] w) bytes

-- a name token begins as a name
begins-formed : (x : List ℕ) → HasForm Name x → begins_name x ≡ true
begins-formed [] h = let never : ⊥ = cc in absurd never
begins-formed (b ∷ bs) h = (and_parts (is_word (b ∷ bs)) (not (is_one_of keywords (b ∷ bs))) h.0).0

mutual
  begins-term : (t : WrittenTerm) → EachName (HasForm Name) t → EachName (λ x. begins_name x ≡ true) t
  begins-term (variable_word x) h = tt
  begins-term (application x ts) h = (begins-formed x h.0, begins-args ts h.1)

  begins-args : (ts : WrittenArgs) → EachNameOf (HasForm Name) ts → EachNameOf (λ x. begins_name x ≡ true) ts
  begins-args no_words h = tt
  begins-args (words t ts) h = (begins-term t h.0, begins-args ts h.1)

begins-formula : (w : WrittenFormula) → EachNameIn (HasForm Name) w → EachNameIn (λ x. begins_name x ≡ true) w
begins-formula (true_unit q) h = tt
begins-formula (false_unit q) h = tt
begins-formula (literal positive x ts) h = (begins-formed x h.0, begins-args ts h.1)
begins-formula (pair j a b) h = (begins-formula a h.0, begins-formula b h.1)
begins-formula (bind q x a) h = begins-formula a h

-- the names of a problem that is read begin as names
begin-as-names : (names : List (List ℕ)) (bytes : List ℕ) (goal : Formula) (h : ProblemIsRead (items_of bytes) names Lkf goal)
    → EachNameIn (λ x. begins_name x ≡ true) h.written.formula
begin-as-names names bytes goal h =
    let w = h.written in
    let r = IsRead-read (items_of bytes) w h.reads in
    begins-formula w.formula (EachName-said bytes w.logic w.formula (subst (λ cs. Says cs (items_of bytes)) r.is_problem.spelled r.said))

-- a verdict that was found without a fault is the answer that its judgment is
verdict-due : (a : Answer) (course : Course) (taken before now : ℕ) (j : Judgment) → IsFound a → (Rose before now → ⊥) → IsCounted a before now
    → IsVerdict a course taken j → a ≡ answer_due j
verdict-due (Accepted n) course taken before now j found calm counted h = sym (ap answer_due h)
verdict-due (Rejected k) course taken before now j found calm counted h = sym (ap answer_due h.1.0)
verdict-due (Refused Explicit r) course taken before now j found calm counted h = sym (ap answer_due h.1.0)
verdict-due ReadFault course taken before now j found calm counted h = absurd (calm counted)
verdict-due OutOfMemory course taken before now j found calm counted h = absurd found
verdict-due _ course taken before now j found calm counted h = absurd h

-- so is one with status 0, whatever the count of faults
accepted-due : (a : Answer) (course : Course) (taken : ℕ) (j : Judgment) → status_of a ≡ 0 → IsVerdict a course taken j → a ≡ answer_due j
accepted-due (Accepted n) course taken j e h = sym (ap answer_due h)
accepted-due (Rejected k) course taken j e h = absurd (omega (arith, e))
accepted-due (Refused r refusal) course taken j e h = absurd (omega (arith, e))
accepted-due ReadFault course taken j e h = absurd (omega (arith, e))
accepted-due OutOfMemory course taken j e h = absurd (omega (arith, e))
accepted-due _ course taken j e h = absurd h

module _ (problem : List ℕ) (explicit : Content) (old new : Outside) (a : Answer) (h : VerifyEnds problem explicit old new a) where
  abbrev number : List ℕ → ℕ
  number = number_in (length h.names) h.names

  agrees : Agrees number h.names
  agrees = Agrees-number_in (length h.names) h.names h.different

  back : GivesBack (text_in (length h.names) h.names) number
  back = GivesBack-number_in (length h.names) h.names (let l : length h.names ≤ length h.names = omega arith in l)

  -- an answer that is the judgment of the bytes that were taken and are left is due
  told-due : NumbersDontMatter → a ≡ answer_due (judgment number h.goal (h.taken ++ left_of new.left)) → VerifyIsDue explicit (problem ∷ h.taken ∷ []) a
  told-due numbers told w bytes is holds' text other gives =
      let known : IsKnown explicit = subst IsKnown (sym holds') tt in
      let same : h.taken ++ left_of new.left ≡ bytes =
      one-content explicit (h.taken ++ left_of new.left) bytes (held-so explicit (h.taken ++ left_of new.left) known h.held) holds' in
      let formula : h.read.written.formula ≡ w =
      ap (λ (x : WrittenProblem). x.formula) (problem-read_once (items_of problem) h.read.written (record { logic = Lkf; formula = w }) h.read.reads is) in
      told ∙ ap answer_due (
      ap (judgment number h.goal) same
      ∙ ap (λ g. judgment number g bytes) (h.read.meant number agrees)
      ∙ numbers (text_in (length h.names) h.names) text number other back gives h.read.written.formula (begin-as-names h.names problem h.goal h.read) bytes
      ∙ ap (λ f. judgment other (formula_meant other [] [] f) bytes) formula
      )

  -- so is one that was found without a fault, and one with status 0
  ends-due : (Rose old.faults new.faults → ⊥) → IsFound a → NumbersDontMatter → VerifyIsDue explicit (problem ∷ h.taken ∷ []) a
  ends-due calm found numbers =
      told-due numbers
      (verdict-due a (course_of number h.goal h.taken) (length h.taken) old.faults new.faults (judgment number h.goal (h.taken ++ left_of new.left)) found calm
      h.counted (h.judged number agrees))

  pub accepted-ends : NumbersDontMatter → status_of a ≡ 0 → VerifyIsDue explicit (problem ∷ h.taken ∷ []) a
  accepted-ends numbers e =
      told-due numbers
      (accepted-due a (course_of number h.goal h.taken) (length h.taken) (judgment number h.goal (h.taken ++ left_of new.left)) e (h.judged number agrees))

due-ends : NumbersDontMatter → (explicit : Content) (inputs : List (List ℕ)) (old new : Outside) → (Rose old.faults new.faults → ⊥) → (a : Answer) → IsFound a
    → EndsVerify explicit inputs old new a → VerifyIsDue explicit inputs a
due-ends numbers explicit (problem ∷ taken ∷ []) old new calm a found h = ends-due problem explicit old new a h calm found numbers
due-ends numbers explicit [] old new calm a found h = absurd h
due-ends numbers explicit (problem ∷ []) old new calm a found h = absurd h
due-ends numbers explicit (problem ∷ taken ∷ other ∷ more) old new calm a found h = absurd h

fits-ends : NumbersDontMatter → (explicit : Content) → IsKnown explicit → (inputs : List (List ℕ)) (old new : Outside) → (Rose old.faults new.faults → ⊥) → (a b : Answer) → IsFound a
    → EndsVerify explicit inputs old new a → VerifyIsDue explicit inputs b → a ≡ b
fits-ends numbers explicit known (problem ∷ taken ∷ []) old new calm a b found h due =
    let bytes = h.taken ++ left_of new.left in
    let held = held-so explicit bytes known h.held in
    let is : IsProblemOf problem h.read.written.formula = read-problem problem h.names h.goal h.read in
    let n = number_in (length h.names) h.names in
    let gives : GivesBack (text_in (length h.names) h.names) n = back problem explicit old new a h in
    ends-due problem explicit old new a h calm found numbers h.read.written.formula bytes is held (text_in (length h.names) h.names) n gives
    ∙ sym (due h.read.written.formula bytes is held (text_in (length h.names) h.names) n gives)
fits-ends numbers explicit known [] old new calm a b found h due = absurd h
fits-ends numbers explicit known (problem ∷ []) old new calm a b found h due = absurd h
fits-ends numbers explicit known (problem ∷ taken ∷ other ∷ more) old new calm a b found h due = absurd h

pub verify-lawful : NumbersDontMatter → (content : List ℕ → Content) (problem explicit : List ℕ) → IsLawfulTask content (verify_task problem explicit)
verify-lawful numbers content problem explicit = record {
  lawful = (λ earlier. lkf_problem-lawful, tt);
  due = λ inputs old new calm a found h. due-ends numbers (content explicit) inputs old new calm a found h;
  fits = λ known inputs old new calm a b found h due. fits-ends numbers (content explicit) known.1.0 inputs old new calm a b found h due;
}
