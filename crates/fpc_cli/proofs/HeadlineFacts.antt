-- The headline follows from the answer's cause.
use Rattle.std.proofs.Common.{◌≡◌, ◌≢◌, ℕ, ◌≤◌, nat_le, Bool, true, false, List, [], ◌∷◌, ◌++◌, length, Some, refl, sym, ap, ◌∙◌, subst, inl, inr, arith}
use Rattle.fpc_base.specs.Lexeme.{items_of}
use Rattle.fpc_base.specs.Outside.{Outside, Content, holds, Rose}
use Rattle.fpc_terms.specs.Name.{Agrees, AreDifferent}
use Rattle.polarised_formulas.specs.Formula.{Formula, IsClosed}
use Rattle.polarised_formulas.specs.Numbering.{number_in, text_in}
use Rattle.polarised_formulas.specs.PlainForm.{GivesBack}
use Rattle.polarised_formulas.specs.PlainLimits.{IsNumbering}
use Rattle.polarised_formulas.specs.ReadProblem.{ProblemIsRead}
use Rattle.polarised_formulas.specs.Written.{WrittenFormula, formula_meant}
use Rattle.polarised_formulas.specs.declared.logic.Logic.TheVariants.{Lkf}
use Rattle.polarised_formulas.specs.declared.step.Step.{Step}
use Rattle.polarised_formulas.proofs.Numberings.{GivesBack-number_in, Agrees-number_in}
use Rattle.polarised_formulas.proofs.Closed.{IsClosed-formula_meant}
use Rattle.polarised_formulas.proofs.ProblemFacts.{read-problem}
use Rattle.search_model.specs.declared.plain.Outcome.{Outcome}
use Rattle.search_model.specs.declared.plain.Outcome.TheVariants as search
use Rattle.explicit_form.specs.StepLimits.{most_bytes}
use Rattle.lkf_rules.specs.Lkf.{lkf}
use Rattle.explicit_kernel.specs.Judgment.{Judgment, accepted, rejected, refused, judgment}
use Rattle.explicit_kernel.specs.JudgmentLaws.{AcceptedIsSpelled, AcceptedHasNodes}
use Rattle.elaborator.specs.Check.{IsRight}
use Rattle.elaborator.specs.Elaborate.{explicit_text}
use Rattle.elaborator.specs.OneOutcome.{IsChecked, CheckedOnce}
use Rattle.fpc_cli.specs.declared.answer.Answer.{Answer}
use Rattle.fpc_cli.specs.declared.answer.Answer.TheVariants.{Accepted, Rejected, Formatted, Holds, NotProved, BudgetSpent, TooLong, Refused, Usage, ReadFault, OutOfMemory}
use Rattle.fpc_cli.specs.declared.answer.Role.{Role}
use Rattle.fpc_cli.specs.declared.answer.Role.TheVariants as role
use Rattle.fpc_cli.specs.declared.command.Wanted.{Wanted}
use Rattle.fpc_cli.specs.declared.command.Wanted.TheVariants.{Verdict, Explicit}
use Rattle.fpc_cli.specs.Answer.{answer_text, status_of}
use Rattle.fpc_cli.specs.BuiltIn.{built_in_text}
use Rattle.fpc_cli.specs.Command.{Asked, verify, Chosen, in_file, built_in, guided}
use Rattle.fpc_cli.specs.Grammars as grammar
use Rattle.fpc_cli.specs.Headline.{Seen, IsRun, Writes, IsCalm, HasMemory, IsDefinitionHeld, AreHeld, AreWellFormed, Follows, AcceptsOnlyDerivable, IsVerifiedWith, WritesOnlyAccepted, IsToldSpelling, AcceptsOnlySpellings, AcceptsEachSpelling, TicksAreNodes, IsTheSearchs, IsVerdict, VerdictsAreTheSearchs, VerdictsCome, Headline}
use Rattle.fpc_cli.specs.Held.{IsKnown}
use Rattle.fpc_cli.specs.Inputs.{Grammar, Input, source, at_hand, stream, IsAccepted, IsUnread, IsRefusal, Ending, Comes, ComesOf, AreKnown, IsDue}
use Rattle.fpc_cli.specs.Laws.{IsFound, IsGiven, AnswerIsDue}
use Rattle.fpc_cli.specs.Origins.{definition_input}
use Rattle.fpc_cli.specs.Run.{IsCaused, IsTold, IsPut}
use Rattle.fpc_cli.specs.commands.Guided.{IsGuidedAnswer, IsProvedBy, IsAcceptedText, EndsGuided, IsItsAnswer, GuidedIsDue, answer_of, success_of, as_text, certificate_input, guided_task}
use Rattle.fpc_cli.specs.commands.Verify.{EndsVerify, answer_due}
use Rattle.fpc_cli.proofs.Contents.{held-so, never-missing, one-content}
use Rattle.fpc_cli.proofs.commands.GuidedLaws.{its-answer}
use Rattle.fpc_cli.proofs.commands.GuidedTexts.{by_length}
use Rattle.fpc_cli.proofs.commands.VerifyFacts.{read-problem as problem-of}
use Rattle.fpc_cli.proofs.commands.VerifyLaws.{NumbersDontMatter, accepted-ends}

-- THE STATUS
-- memory ran out for no answer with another status
found-by : (a : Answer) → status_of a ≢ 8 → IsFound a
found-by OutOfMemory h = h refl
found-by (Accepted n) h = tt
found-by (Rejected k) h = tt
found-by (Formatted text) h = tt
found-by (Holds atom) h = tt
found-by NotProved h = tt
found-by BudgetSpent h = tt
found-by TooLong h = tt
found-by (Refused r refusal) h = tt
found-by Usage h = tt
found-by ReadFault h = tt

-- what was found was told and written
record IsSettled (r : Seen) (found : Answer) : Type 0 where
  status : r.status ≡ status_of found
  written : Writes r (answer_text found)
  is_found : IsFound found

-- no verdict has one of the other statuses
no-verdict : (n : ℕ) → n ≢ 0 → n ≢ 1 → n ≢ 2 → n ≢ 7 → IsVerdict n → ⊥
no-verdict n a b c d (inl e) = a e
no-verdict n a b c d (inr (inl e)) = b e
no-verdict n a b c d (inr (inr (inl e))) = c e
no-verdict n a b c d (inr (inr (inr e))) = d e

refused-is-none : IsVerdict 3 → ⊥
refused-is-none v = no-verdict 3 (λ e. omega (arith, e)) (λ e. omega (arith, e)) (λ e. omega (arith, e)) (λ e. omega (arith, e)) v

read_fault-is-none : IsVerdict 5 → ⊥
read_fault-is-none v = no-verdict 5 (λ e. omega (arith, e)) (λ e. omega (arith, e)) (λ e. omega (arith, e)) (λ e. omega (arith, e)) v

write_fault-is-none : IsVerdict 6 → ⊥
write_fault-is-none v = no-verdict 6 (λ e. omega (arith, e)) (λ e. omega (arith, e)) (λ e. omega (arith, e)) (λ e. omega (arith, e)) v

memory-is-none : IsVerdict 8 → ⊥
memory-is-none v = no-verdict 8 (λ e. omega (arith, e)) (λ e. omega (arith, e)) (λ e. omega (arith, e)) (λ e. omega (arith, e)) v

module _ (r : Seen) (h : IsRun r) where
  settled-told : r.status ≢ 8 → r.status ≡ status_of h.told → Writes r (answer_text h.told) → IsSettled r h.found
  settled-told memory e w = by h.is_told
    where
      by : IsTold h.found h.told → IsSettled r h.found
      by (inl same) =
          let status : r.status ≡ status_of h.found = e ∙ ap status_of same in
          record { status = status; written = subst (λ a. Writes r (answer_text a)) same w; is_found = found-by h.found (λ k. memory (status ∙ k)) }
      by (inr none) = absurd (memory (e ∙ ap status_of none))

  settled : r.status ≢ 8 → (r.status ≡ 6 → Rose r.sink_before.faults r.sink_now.faults → ⊥) → IsSettled r h.found
  settled memory calm = by h.written
    where
      by : IsPut (status_of h.told) (answer_text h.told) r.status r.sink_before.faults r.sink_now.faults r.sink_before.taken r.sink_now.taken → IsSettled r h.found
      by (inl k) = settled-told memory k.0 k.2
      by (inr k) = absurd (calm k.0 k.1)

  -- where the status is that of a verdict
  settled-verdict : IsVerdict r.status → IsSettled r h.found
  settled-verdict v = settled (λ k. memory-is-none (subst IsVerdict k v)) (λ k rose. write_fault-is-none (subst IsVerdict k v))

  -- where no call failed and memory sufficed
  settled-calm : IsCalm r → HasMemory r → IsSettled r h.found
  settled-calm calm memory = settled memory (λ k. calm.sink)

-- GOOD INPUTS, where the answer's status is that of a verdict
unread-fails : (r : Role) (c : Content) (name : List ℕ) (old new : Outside) (a : Answer) → IsVerdict (status_of a) → IsUnread r c name old new a → ⊥
unread-fails r c name old new ReadFault v h = read_fault-is-none v
unread-fails r c name old new OutOfMemory v h = memory-is-none v
unread-fails r c name old new (Refused x refusal) v h = refused-is-none v
unread-fails r c name old new _ v h = h

refusal-fails : (r : Role) (g : Grammar) (bytes : List ℕ) (a : Answer) → IsVerdict (status_of a) → IsRefusal r g bytes a → ⊥
refusal-fails r g bytes OutOfMemory v h = memory-is-none v
refusal-fails r g bytes (Refused x refusal) v h = refused-is-none v
refusal-fails r g bytes _ v h = h

held-known : (c : Content) (bytes : List ℕ) → c ≡ holds bytes → IsKnown c
held-known c bytes e = subst IsKnown (sym e) tt

module _ (content : List ℕ → Content) (Ends : Ending) (a : Answer) (success : IsVerdict (status_of a)) where
  -- how the rest of the inputs is read
  abbrev Later : List (List ℕ) → List Input → Outside → Type 0
  Later earlier inputs new = (mid : Outside) × Comes content Ends earlier inputs mid new a

  good-source : (r : Role) (name : List ℕ) (grammar : List (List ℕ) → Grammar) (inputs : List Input) (earlier : List (List ℕ)) (old new : Outside) (bytes : List ℕ) → content name ≡ holds bytes
      → Comes content Ends earlier (source r name grammar ∷ inputs) old new a → IsAccepted (grammar earlier) bytes × Later (earlier ++ bytes ∷ []) inputs new
  good-source r name grammar inputs earlier old new bytes held (inl (inl h)) = absurd (unread-fails r (content name) name old new a success h)
  good-source r name grammar inputs earlier old new bytes held (inl (inr h)) = absurd (refusal-fails r (grammar earlier) h.bytes a success h.refusal)
  good-source r name grammar inputs earlier old new bytes held (inr (mid, (other, (good, rest)))) =
      let same : other ≡ bytes = one-content (content name) other bytes (held-so (content name) other (held-known (content name) bytes held) good.0.held) held in
      subst (λ (x : List ℕ). IsAccepted (grammar earlier) x × Later (earlier ++ x ∷ []) inputs new) same ((good.0.size, good.1), (mid, rest))

  good-at_hand : (r : Role) (text : List ℕ) (grammar : List (List ℕ) → Grammar) (inputs : List Input) (earlier : List (List ℕ)) (old new : Outside)
      → Comes content Ends earlier (at_hand r text grammar ∷ inputs) old new a → IsAccepted (grammar earlier) text × Later (earlier ++ text ∷ []) inputs new
  good-at_hand r text grammar inputs earlier old new (inl h) = absurd (refusal-fails r (grammar earlier) text a success h.1)
  good-at_hand r text grammar inputs earlier old new (inr (mid, (bytes, (good, rest)))) =
      (good.2, subst (λ (x : List ℕ). Later (earlier ++ x ∷ []) inputs new) good.1 (mid, rest))

  good-definition : (chosen : Chosen) (g : Grammar) (inputs : List Input) (earlier : List (List ℕ)) (old new : Outside) (bytes : List ℕ) → IsDefinitionHeld content chosen bytes
      → Comes content Ends earlier (definition_input chosen (λ before. g) ∷ inputs) old new a → IsAccepted g bytes × Later (earlier ++ bytes ∷ []) inputs new
  good-definition (in_file name) g inputs earlier old new bytes held h = good-source role.Definition name (λ before. g) inputs earlier old new bytes held h
  good-definition (built_in definition) g inputs earlier old new bytes held h =
      subst (λ (x : List ℕ). IsAccepted g x × Later (earlier ++ x ∷ []) inputs new) (sym held)
      (good-at_hand role.Definition (built_in_text definition) (λ before. g) inputs earlier old new h)

  good-stream : (name : List ℕ) (earlier : List (List ℕ)) (old new : Outside) → Comes content Ends earlier (stream name ∷ []) old new a
      → (mid : Outside) × ((taken : List ℕ) × Ends (earlier ++ taken ∷ []) mid new a)
  good-stream name earlier old new (inl h) = absurd (read_fault-is-none (subst IsVerdict (ap status_of h.0) success))
  good-stream name earlier old new (inr (mid, (taken, (good, rest)))) = (mid, (taken, rest))

-- WHAT A GUIDED SEARCH ANSWERED
module _ (content : List ℕ → Content) (wanted : Wanted) (budget : ℕ) (problem : List ℕ) (chosen : Chosen) (certificate : List ℕ) (first second third : List ℕ)
    (held : AreHeld content problem chosen certificate first second third) where
  -- the files are well-formed, and the answer is that of the search
  record IsFollowed (a : Answer) : Type 0 where
    formed : AreWellFormed first second third
    answered : IsGuidedAnswer wanted budget first second third a

  ended : (a : Answer) → IsVerdict (status_of a) → (mid new : Outside) → EndsGuided wanted budget (first ∷ second ∷ third ∷ []) mid new a → IsGuidedAnswer wanted budget first second third a
  ended a success mid new h =
      elim h.searched [
        | inl none ↦ absurd (memory-is-none (subst IsVerdict (ap status_of none) success))
        | inr s ↦ s
      ]

  followed : (a : Answer) → IsVerdict (status_of a) → (old new : Outside) → ComesOf content (guided_task wanted budget problem chosen certificate) old new a → IsFollowed a
  followed a success old new h =
      let one = good-source content (EndsGuided wanted budget) a success role.Problem problem (λ earlier. grammar.lkf_problem)
      (definition_input chosen (λ earlier. grammar.definition (Some Lkf)) ∷ certificate_input certificate ∷ []) [] old new first held.problem_held h in
      let two = good-definition content (EndsGuided wanted budget) a success chosen (grammar.definition (Some Lkf)) (certificate_input certificate ∷ []) (first ∷ []) one.1.0 new second held.definition_held one.1.1 in
      let three = good-source content (EndsGuided wanted budget) a success role.Certificate certificate (λ earlier. grammar.certificate_after second) [] (first ∷ second ∷ []) two.1.0 new third held.certificate_held two.1.1 in
      record {
        formed = record { problem_formed = one.0; definition_formed = two.0; certificate_formed = three.0 };
        answered = ended a success three.1.0 new three.1.1;
      }

  -- the search is accepted with steps, and they are the answer
  record IsSuccess (names : List (List ℕ)) (a : Answer) : Type 0 where
    steps : List Step
    follows : Follows budget first second third names steps
    told : a ≡ success_of wanted names steps
    verified : (text : List ℕ) → a ≡ Formatted text → (number : List ℕ → ℕ) → IsNumbering names number → judgment number follows.checked.goal text ≡ accepted (length steps)

  by-outcome : (names : List (List ℕ)) (o : Outcome) (c : IsChecked (items_of first) (items_of second) (items_of third) budget names o) → IsClosed c.goal → IsProvedBy c.goal o → IsRight c.program c.goal o
      → (a : Answer) → a ≡ answer_of wanted names o → IsAcceptedText names c.goal o a → status_of a ≡ 0 → IsSuccess names a
  by-outcome names (search.Accepted t u) c closed proved right a told v success = record {
    steps = t;
    follows = record { units = u; checked = c; closed = closed; derivable = proved.1; justified = right };
    told = told;
    verified = λ text e number is. subst (IsAcceptedText names c.goal (search.Accepted t u)) e v number is;
  }
  by-outcome names (search.Rejected u) c closed proved right a told v success = let no : 0 ≡ 1 = sym success ∙ ap status_of told in absurd (omega (arith, no))
  by-outcome names search.Spent c closed proved right a told v success = let no : 0 ≡ 2 = sym success ∙ ap status_of told in absurd (omega (arith, no))

  success-of : (a : Answer) → status_of a ≡ 0 → (g : IsGuidedAnswer wanted budget first second third a) → IsSuccess g.names a
  success-of a success g = by-outcome g.names g.outcome g.checked g.closed g.proved g.right a g.told g.verified success

-- what the program does for a guided search is what the search does, whatever is wanted
caused-guided : (wanted : Wanted) (budget : ℕ) (problem : List ℕ) (chosen : Chosen) (certificate : List ℕ) (content : List ℕ → Content) (old new : Outside) (a : Answer)
    → IsCaused (guided wanted budget problem chosen certificate) content old new a → ComesOf content (guided_task wanted budget problem chosen certificate) old new a
caused-guided Verdict budget problem chosen certificate content old new a h = h
caused-guided Explicit budget problem chosen certificate content old new a h = h

-- the answer is that of a guided search that is asked for
comes-guided : (r : Seen) (h : IsRun r) (wanted : Wanted) (budget : ℕ) (problem : List ℕ) (chosen : Chosen) (certificate : List ℕ) → r.asked ≡ guided wanted budget problem chosen certificate
    → ComesOf r.content (guided_task wanted budget problem chosen certificate) r.files_before r.files_now h.found
comes-guided r h wanted budget problem chosen certificate e =
    caused-guided wanted budget problem chosen certificate r.content r.files_before r.files_now h.found
    (subst (λ (asked : Asked). IsCaused asked r.content r.files_before r.files_now h.found) e h.caused)

-- WHAT IS ACCEPTED
accepts-only_derivable : (r : Seen) → IsRun r → AcceptsOnlyDerivable r
accepts-only_derivable r h wanted budget problem chosen certificate asked first second third held zero =
    let s = settled-verdict r h (inl zero) in
    let success : status_of h.found ≡ 0 = sym s.status ∙ zero in
    let f = followed r.content wanted budget problem chosen certificate first second third held h.found (inl success) r.files_before r.files_now (comes-guided r h wanted budget problem chosen certificate asked) in
    let k = success-of r.content wanted budget problem chosen certificate first second third held h.found success f.answered in
    (f.answered.names, (k.steps, (k.follows, subst (λ (a : Answer). Writes r (answer_text a)) k.told s.written)))

-- THE KERNEL
module _ (due : AnswerIsDue) (r : Seen) (h : IsRun r) (problem explicit : List ℕ) (asked : r.asked ≡ verify problem explicit) (first bytes : List ℕ)
    (held : r.content problem ≡ holds first) (held' : r.content explicit ≡ holds bytes) (formed : IsAccepted grammar.lkf_problem first) (calm : IsCalm r) (memory : HasMemory r) where
  verify-given : IsGiven (verify problem explicit) r.content h.found
  verify-given = record {
    known = (held-known (r.content problem) first held, (held-known (r.content explicit) bytes held', tt));
    old = r.files_before;
    new = r.files_now;
    calm = calm.files;
    found = (settled-calm r h calm memory).is_found;
    caused = subst (λ (x : Asked). IsCaused x r.content r.files_before r.files_now h.found) asked h.caused;
  }

  -- the answer is the judgment of the bytes
  verify-found : (w : WrittenFormula) → grammar.IsProblemOf first w → (text : ℕ → List ℕ) (number : List ℕ → ℕ) → GivesBack text number
      → h.found ≡ answer_due (judgment number (formula_meant number [] [] w) bytes)
  verify-found w is text number gives =
      let d = due (verify problem explicit) r.content h.found verify-given in
      let e = (d.1 first held).1 formed in
      e.1 (λ m. never-missing (r.content explicit) bytes held' m) w bytes is held' text number gives

  -- where it is this answer
  verify-told : (a : Answer) → h.found ≡ a → (r.status ≡ status_of a) × Writes r (answer_text a)
  verify-told a e =
      let s = settled-calm r h calm memory in
      (s.status ∙ ap status_of e, subst (λ (x : Answer). Writes r (answer_text x)) e s.written)

accepted-by : (j : Judgment) → status_of (answer_due j) ≡ 0 → (n : ℕ) × (j ≡ accepted n)
accepted-by (accepted n) e = (n, refl)
accepted-by (rejected k place) e = absurd (omega (arith, e))
accepted-by (refused x fitted) e = absurd (omega (arith, e))

module _ (spelled : AcceptedIsSpelled lkf) (nodes : AcceptedHasNodes lkf) where
  accepts-each_spelling : AnswerIsDue → (r : Seen) → IsRun r → AcceptsEachSpelling r
  accepts-each_spelling due r h problem explicit asked first bytes held held' formed w is text number gives n k calm memory =
      let goal = formula_meant number [] [] w in
      let closed : IsClosed (formula_meant number [] [] w) = IsClosed-formula_meant number w (read-problem [] (items_of first) (record { logic = Lkf; formula = w }) is).1.is_bound in
      let found = verify-found due r h problem explicit asked first bytes held held' formed calm memory w is text number gives in
      let one : h.found ≡ Accepted n = found ∙ ap answer_due ((spelled text number gives (formula_meant number [] [] w) closed bytes n).1 k) in
      let told = verify-told due r h problem explicit asked first bytes held held' formed calm memory (Accepted n) one in
      (told.0, record { certificate = k; nodes = nodes text number (formula_meant number [] [] w) bytes n k; told = told.1 })

  -- an answer with status 0 that is due is that of a spelling
  spelling-due : (r : Seen) (a : Answer) → Writes r (answer_text a) → status_of a ≡ 0 → (first bytes : List ℕ) (w : WrittenFormula) → grammar.IsProblemOf first w
      → (text : ℕ → List ℕ) (number : List ℕ → ℕ) → GivesBack text number → a ≡ answer_due (judgment number (formula_meant number [] [] w) bytes)
      → (n : ℕ) × IsToldSpelling r text number (formula_meant number [] [] w) bytes n
  spelling-due r a written success first bytes w is text number gives found =
      let closed : IsClosed (formula_meant number [] [] w) = IsClosed-formula_meant number w (read-problem [] (items_of first) (record { logic = Lkf; formula = w }) is).1.is_bound in
      let k = accepted-by (judgment number (formula_meant number [] [] w) bytes) (sym (ap status_of found) ∙ success) in
      let c = (spelled text number gives (formula_meant number [] [] w) closed bytes k.0).0 k.1 in
      let one : a ≡ Accepted k.0 = found ∙ ap answer_due k.1 in
      (k.0, record { certificate = c; nodes = nodes text number (formula_meant number [] [] w) bytes k.0 c; told = subst (λ (x : Answer). Writes r (answer_text x)) one written })

  accepts-only_spellings : NumbersDontMatter → (r : Seen) → IsRun r → AcceptsOnlySpellings r
  accepts-only_spellings numbers r h problem explicit asked first bytes held held' zero =
      let s = settled-verdict r h (inl zero) in
      let success : status_of h.found ≡ 0 = sym s.status ∙ zero in
      let caused = subst (λ (x : Asked). IsCaused x r.content r.files_before r.files_now h.found) asked h.caused in
      let one = good-source r.content (EndsVerify (r.content explicit)) h.found (inl success) role.Problem problem (λ earlier. grammar.lkf_problem) (stream explicit ∷ []) []
      r.files_before r.files_now first held caused in
      let two = good-stream r.content (EndsVerify (r.content explicit)) h.found (inl success) explicit (first ∷ []) one.1.0 r.files_now one.1.1 in (
        one.0,
        λ w is text number gives.
            spelling-due r h.found s.written success first bytes w is text number gives
            (accepted-ends first (r.content explicit) two.0 r.files_now h.found two.1.1 numbers success w bytes is held' text number gives),
      )

  ticks-are_nodes : TicksAreNodes
  ticks-are_nodes names goal closed old left before now n j text number gives agrees =
      let shown = j.shown number agrees in
      let c = (spelled text number gives goal closed j.bytes n).0 shown.0 in
      (shown.2, (c, nodes text number goal j.bytes n c))

-- THE EXPLICIT CERTIFICATE
formatted : (text : List ℕ) (a : Answer) → a ≡ as_text text → status_of a ≡ 0 → a ≡ Formatted text
formatted text a told success = by (nat_le (length text) most_bytes) refl
  where
    by : (b : Bool) → nat_le (length text) most_bytes ≡ b → a ≡ Formatted text
    by true e = told ∙ ap (by_length text) e
    by false e = let no : 0 ≡ 7 = sym success ∙ ap status_of (told ∙ ap (by_length text) e) in absurd (omega (arith, no))

-- a text that is judged accepted is accepted by `verify`
verified-with : AnswerIsDue → (first : List ℕ) → IsAccepted grammar.lkf_problem first → (names : List (List ℕ)) → AreDifferent names → (goal : Formula) (read : ProblemIsRead (items_of first) names Lkf goal)
    → (bytes : List ℕ) (n : ℕ) → ((number : List ℕ → ℕ) → IsNumbering names number → judgment number goal bytes ≡ accepted n) → IsVerifiedWith first bytes n
verified-with due first formed names different goal read bytes n judged s run problem explicit asked held held' calm memory =
    let number = number_in (length names) names in
    let agrees : Agrees number names = Agrees-number_in (length names) names different in
    let same : length names ≤ length names = omega arith in
    let back : GivesBack (text_in (length names) names) number = GivesBack-number_in (length names) names same in
    let found = verify-found due s run problem explicit asked first bytes held held' formed calm memory read.written.formula (problem-of first names goal read) (text_in (length names) names) number back in
    verify-told due s run problem explicit asked first bytes held held' formed calm memory (Accepted n)
    (found ∙ ap answer_due (ap (λ (f : Formula). judgment number f bytes) (sym (read.meant number agrees)) ∙ judged number (agrees, (text_in (length names) names, back))))

writes-only_accepted : AnswerIsDue → (r : Seen) → IsRun r → WritesOnlyAccepted r
writes-only_accepted due r h budget problem chosen certificate asked first second third held zero =
    let s = settled-verdict r h (inl zero) in
    let success : status_of h.found ≡ 0 = sym s.status ∙ zero in
    let f = followed r.content Explicit budget problem chosen certificate first second third held h.found (inl success) r.files_before r.files_now (comes-guided r h Explicit budget problem chosen certificate asked) in
    let k = success-of r.content Explicit budget problem chosen certificate first second third held h.found success f.answered in
    let told : h.found ≡ Formatted (explicit_text f.answered.names k.steps) = formatted (explicit_text f.answered.names k.steps) h.found k.told success in
    record {
      names = f.answered.names;
      steps = k.steps;
      follows = k.follows;
      written = subst (λ (a : Answer). Writes r (answer_text a)) told s.written;
      verified = verified-with due first f.formed.problem_formed f.answered.names k.follows.checked.different k.follows.checked.goal k.follows.checked.goal_read
          (explicit_text f.answered.names k.steps) (length k.steps) (k.verified (explicit_text f.answered.names k.steps) told);
    }

-- THE VERDICTS
module _ (due : AnswerIsDue) (r : Seen) (h : IsRun r) (budget : ℕ) (problem : List ℕ) (chosen : Chosen) (certificate : List ℕ) (first second third : List ℕ)
    (held : AreHeld r.content problem chosen certificate first second third) (formed : AreWellFormed first second third) (calm : IsCalm r) (memory : HasMemory r) where
  known-definition : (c : Chosen) → IsDefinitionHeld r.content c second → (g : List (List ℕ) → Grammar) (inputs : List Input) → AreKnown r.content inputs → AreKnown r.content (definition_input c g ∷ inputs)
  known-definition (in_file name) e g inputs rest = (held-known (r.content name) second e, rest)
  known-definition (built_in definition) e g inputs rest = rest

  all-known : (wanted : Wanted) → AreKnown r.content (guided_task wanted budget problem chosen certificate).inputs
  all-known wanted = (
    held-known (r.content problem) first held.problem_held,
    known-definition chosen held.definition_held (λ earlier. grammar.definition (Some Lkf)) (certificate_input certificate ∷ []) (held-known (r.content certificate) third held.certificate_held, tt),
  )

  guided-given : (wanted : Wanted) → IsCaused (guided wanted budget problem chosen certificate) r.content r.files_before r.files_now h.found → IsGiven (guided wanted budget problem chosen certificate) r.content h.found
  guided-given Verdict caused = record { known = all-known Verdict; old = r.files_before; new = r.files_now; calm = calm.files; found = (settled-calm r h calm memory).is_found; caused = caused }
  guided-given Explicit caused = record { known = all-known Explicit; old = r.files_before; new = r.files_now; calm = calm.files; found = (settled-calm r h calm memory).is_found; caused = caused }

  guided-due : (wanted : Wanted) → IsCaused (guided wanted budget problem chosen certificate) r.content r.files_before r.files_now h.found
      → IsDue r.content (GuidedIsDue wanted budget) [] (guided_task wanted budget problem chosen certificate).inputs h.found
  guided-due Verdict caused = due (guided Verdict budget problem chosen certificate) r.content h.found (guided-given Verdict caused)
  guided-due Explicit caused = due (guided Explicit budget problem chosen certificate) r.content h.found (guided-given Explicit caused)

  module _ (Due : List (List ℕ) → Answer → Type 0) (inputs : List Input) (a : Answer) where
    due-definition : (c : Chosen) → IsDefinitionHeld r.content c second → IsDue r.content Due (first ∷ []) (definition_input c (λ earlier. grammar.definition (Some Lkf)) ∷ inputs) a
        → IsDue r.content Due (first ∷ second ∷ []) inputs a
    due-definition (in_file name) e d = (d.1 second e).1 formed.definition_formed
    due-definition (built_in definition) e d =
        subst (λ (x : List ℕ). IsDue r.content Due (first ∷ x ∷ []) inputs a) (sym e) (d.1 (subst (IsAccepted (grammar.definition (Some Lkf))) e formed.definition_formed))

  due-answer : (wanted : Wanted) → IsCaused (guided wanted budget problem chosen certificate) r.content r.files_before r.files_now h.found → IsItsAnswer wanted budget first second third h.found
  due-answer wanted caused =
      let d = guided-due wanted caused in
      let e = (d.1 first held.problem_held).1 formed.problem_formed in
      let f = due-definition (GuidedIsDue wanted budget) (certificate_input certificate ∷ []) h.found chosen held.definition_held e in
      (f.1 third held.certificate_held).1 formed.certificate_formed

-- an answer that was told is that of the search
searchs-of : (r : Seen) (a : Answer) → IsSettled r a → (wanted : Wanted) (budget : ℕ) (first second third : List ℕ) → IsItsAnswer wanted budget first second third a
    → IsTheSearchs r wanted budget first second third
searchs-of r a s wanted budget first second third k = record {
  names = k.answered.names;
  outcome = k.answered.outcome;
  checked = k.answered.checked;
  within = k.answered.within;
  status = s.status ∙ ap status_of k.answered.told;
  written = subst (λ (x : Answer). Writes r (answer_text x)) k.answered.told s.written;
  only = λ others other c. sym (k.only others other c) ∙ k.answered.told;
}

verdicts-come : AnswerIsDue → (r : Seen) → IsRun r → VerdictsCome r
verdicts-come due r h wanted budget problem chosen certificate asked first second third held formed calm memory =
    searchs-of r h.found (settled-calm r h calm memory) wanted budget first second third
    (due-answer due r h budget problem chosen certificate first second third held formed calm memory wanted
    (subst (λ (x : Asked). IsCaused x r.content r.files_before r.files_now h.found) asked h.caused))

verdicts-are_the_searchs : CheckedOnce → (r : Seen) → IsRun r → VerdictsAreTheSearchs r
verdicts-are_the_searchs outcomes r h wanted budget problem chosen certificate asked first second third held v =
    let s = settled-verdict r h v in
    let f = followed r.content wanted budget problem chosen certificate first second third held h.found (subst IsVerdict s.status v) r.files_before r.files_now
    (comes-guided r h wanted budget problem chosen certificate asked) in
    (f.formed, searchs-of r h.found s wanted budget first second third (its-answer outcomes wanted budget first second third h.found f.answered))

-- the headline holds of each run
pub headline : NumbersDontMatter → CheckedOnce → AnswerIsDue → AcceptedIsSpelled lkf → AcceptedHasNodes lkf → (r : Seen) → IsRun r → Headline r
headline numbers outcomes due spelled nodes r h = record {
  accepts = accepts-only_derivable r h;
  writes = writes-only_accepted due r h;
  only_spellings = accepts-only_spellings spelled nodes numbers r h;
  each_spelling = accepts-each_spelling spelled nodes due r h;
  ticks = ticks-are_nodes spelled nodes;
  verdicts = verdicts-are_the_searchs outcomes r h;
  verdicts_come = verdicts-come due r h;
}
