-- A problem that is printed is read back.
use Rattle.std.proofs.Common.{ℕ, List, [], ◌∷◌, subst, arith}
use Rattle.fpc_base.specs.declared.tokens.lexeme.Sign.TheVariants as sign
use Rattle.fpc_base.specs.Lexeme.{a_sign, items_of}
use Rattle.fpc_base.specs.Reading.{ReadsAll}
use Rattle.fpc_terms.specs.Name.{Agrees, HasName}
use Rattle.polarised_formulas.specs.declared.logic.Logic.{Logic}
use Rattle.polarised_formulas.specs.Formula.{Formula}
use Rattle.polarised_formulas.specs.Text.{problem_text}
use Rattle.polarised_formulas.specs.Written.{WrittenFormula, formula_tokens, formula_meant, IsProblem, logic_word}
use Rattle.polarised_formulas.specs.Place.{ProblemLimits}
use Rattle.polarised_formulas.specs.WrittenOf.{written_of}
use Rattle.polarised_formulas.specs.Spoken.{Says}
use Rattle.polarised_formulas.specs.EachName.{EachNameIn}
use Rattle.polarised_formulas.specs.RoundTrip.{IsPrintable, ReadsAs, TextIsScanned, TextIsRead, ReadIsPrintable, ReadIsReadBack}
use Rattle.polarised_formulas.proofs.Scan.{Says-problem_text}
use Rattle.polarised_formulas.proofs.Meant.{formula_meant-written_of, EachNameIn-written_of, IsBound-written_of, IsWrittenIn-written_of}
use Rattle.polarised_formulas.proofs.Small.{written_depth-written_of, HasSmall-written_of, depth_of-formula_meant, HasFewArguments-formula_meant}
use Rattle.polarised_formulas.proofs.Takes.{ReadsAll-written}
use Rattle.polarised_formulas.proofs.Passed.{IsRead-read}
use Rattle.polarised_formulas.proofs.Named.{EachName-said}
use Rattle.polarised_formulas.proofs.Closed.{IsClosed-formula_meant, IsOfLogic-formula_meant, HasNames-formula_meant}

-- the text of a problem says its tokens
pub text-scanned : TextIsScanned
text-scanned names logic f le closed named = Says-problem_text names logic f le closed named

-- it is read
pub ReadsAll-problem_text : (names : List (List ℕ)) (logic : Logic) (f : Formula) → IsPrintable names logic f
    → ReadsAll IsProblem ProblemLimits [] (items_of (problem_text names logic f)) (record { logic = logic; formula = written_of names 0 f })
ReadsAll-problem_text names logic f h =
    let deep = h.deep in
    ReadsAll-written logic (written_of names 0 f) (items_of (problem_text names logic f))
    (IsBound-written_of names 0 f (omega (arith, deep)) h.is_closed)
    (IsWrittenIn-written_of names logic 0 f h.in_logic)
    (rw (written_depth-written_of names 0 f) deep)
    (HasSmall-written_of names 0 f h.few)
    (Says-problem_text names logic f (omega (arith, deep)) h.is_closed h.has_names)

pub ReadsAs-problem_text : (names : List (List ℕ)) (number : List ℕ → ℕ) (logic : Logic) (f : Formula) → Agrees number names
    → IsPrintable names logic f → ReadsAs names number (items_of (problem_text names logic f)) logic f
ReadsAs-problem_text names number logic f agrees h =
    let deep = h.deep in
    record {
      written = written_of names 0 f;
      read = ReadsAll-problem_text names logic f h;
      in_table = EachNameIn-written_of names 0 f h.is_closed h.has_names;
      meant = formula_meant-written_of names number agrees f (omega (arith, deep)) h.is_closed h.has_names;
    }

pub text-read : TextIsRead
text-read names number logic f agrees h = ReadsAs-problem_text names number logic f agrees h

printable-written : (names : List (List ℕ)) (number : List ℕ → ℕ) (bytes : List ℕ) (logic : Logic) (w : WrittenFormula) → Agrees number names
    → ReadsAll IsProblem ProblemLimits [] (items_of bytes) (record { logic = logic; formula = w }) → EachNameIn (HasName names) w
    → IsPrintable names logic (formula_meant number [] [] w)
printable-written names number bytes logic w agrees read in_table =
    let r = IsRead-read (items_of bytes) (record { logic = logic; formula = w }) read in
    let said : Says (logic_word logic ∷ formula_tokens logic w (a_sign sign.Dot ∷ [])) (items_of bytes) =
    subst (λ cs. Says cs (items_of bytes)) r.is_problem.spelled r.said in
    record {
      is_closed = IsClosed-formula_meant number w r.is_problem.is_bound;
      in_logic = IsOfLogic-formula_meant number logic [] w r.is_problem.in_logic;
      has_names = HasNames-formula_meant names number agrees [] w in_table (EachName-said bytes logic w said);
      deep = rw (depth_of-formula_meant number [] [] w) r.deep;
      few = HasFewArguments-formula_meant number [] [] w r.small;
    }

-- what was read is a problem within the limits
pub read-printable : ReadIsPrintable
read-printable names number bytes logic f agrees r =
    subst (λ g. IsPrintable names logic g) r.meant (printable-written names number bytes logic r.written agrees r.read r.in_table)

-- what was read is printed and read back
pub read-back : ReadIsReadBack
read-back names number bytes logic f agrees r =
    ReadsAs-problem_text names number logic f agrees (read-printable names number bytes logic f agrees r)
