-- How the text of a formula comes about node by node, and which names a formula has.
-- What waits behind the part that is being written stands in a list, the innermost first.
use Rattle.std.specs.Prelude.{ℕ, zero, suc, ◌<◌, List, [], ◌∷◌, ◌++◌, codes}
use Rattle.fpc_terms.specs.Printing.{HaveNamesBelow, IsNamedBelow, head_text, arguments_of}
use Rattle.fpc_terms.specs.Text.{name_in}
use Rattle.polarised_formulas.specs.declared.logic.Logic.{Logic}
use Rattle.polarised_formulas.specs.declared.node.Node.{Node}
use Rattle.polarised_formulas.specs.declared.node.Node.TheVariants.{True, False, Atom, And, Or, Implies, ForAll, Exists, Inside}
use Rattle.polarised_formulas.specs.declared.print.writer.Form.{Form}
use Rattle.polarised_formulas.specs.declared.print.writer.Form.TheVariants.{Plain, Named}
use Rattle.polarised_formulas.specs.declared.print.waiting.Operator.{Operator}
use Rattle.polarised_formulas.specs.declared.print.waiting.Operator.TheVariants.{Conjunction, Disjunction, Implication}
use Rattle.polarised_formulas.specs.declared.print.waiting.Waiting.{Waiting}
use Rattle.polarised_formulas.specs.declared.print.waiting.Waiting.TheVariants.{Arguments, Second, Close}
use Rattle.polarised_formulas.specs.Formula.{Formula, truth, falsity, atom, conj, disj, implies, for_all, exists}
use Rattle.polarised_formulas.specs.Opened.{deeper}
use Rattle.polarised_formulas.specs.Text.{Style, mark_text, truth_text, falsity_text, conj_text, disj_text, operator_before, plain_style, named_style}

-- each name of the formula has a number below n
abbrev pub AllNamesBelow : ℕ → Formula → Type 0
AllNamesBelow n (truth p) = Unit {0}
AllNamesBelow n (falsity p) = Unit {0}
AllNamesBelow n (atom positive f ts) = (f < n) × HaveNamesBelow n ts
AllNamesBelow n (conj p a b) = AllNamesBelow n a × AllNamesBelow n b
AllNamesBelow n (disj p a b) = AllNamesBelow n a × AllNamesBelow n b
AllNamesBelow n (implies a b) = AllNamesBelow n a × AllNamesBelow n b
AllNamesBelow n (for_all a) = AllNamesBelow n a
AllNamesBelow n (exists a) = AllNamesBelow n a

-- the name of a node, where it has one, has a number below n
abbrev pub IsNodeNamedBelow : ℕ → Node → Type 0
IsNodeNamedBelow n (Atom positive f k) = f < n
IsNodeNamedBelow n (Inside c) = IsNamedBelow n c
IsNodeNamedBelow n _ = Unit {0}

-- the names of the nodes have numbers below n
abbrev pub AreNodesNamedBelow : ℕ → List Node → Type 0
AreNodesNamedBelow n [] = Unit {0}
AreNodesNamedBelow n (m ∷ ms) = IsNodeNamedBelow n m × AreNodesNamedBelow n ms

-- the style of a form, with the names of a table
abbrev pub form_style : Form → List (List ℕ) → Style
form_style Plain names = plain_style (name_in names)
form_style Named names = named_style (name_in names)

-- the sign of an operator
abbrev pub operator_text : Logic → Operator → List ℕ
operator_text logic (Conjunction p) = conj_text p
operator_text logic (Disjunction p) = disj_text logic p
operator_text logic Implication = codes "=>"

-- the text of one node under d quantifiers, up to its parts
abbrev pub node_text : Style → Logic → ℕ → Node → List ℕ
node_text style logic d (True p) = truth_text p
node_text style logic d (False p) = falsity_text logic p
node_text style logic d (Atom positive f n) = mark_text logic positive ++ (style.leaves d).name f
node_text style logic d (And p) = 40 ∷ []
node_text style logic d (Or p) = 40 ∷ []
node_text style logic d Implies = 40 ∷ []
node_text style logic d ForAll = codes "all " ++ style.binder d
node_text style logic d Exists = codes "some " ++ style.binder d
node_text style logic d (Inside c) = head_text (style.leaves d) c

-- behind a formula or term: parentheses that close, and then a comma or an operator, where one more part comes
abbrev pub end_text : Logic → List Waiting → List ℕ
end_text logic [] = []
end_text logic (Arguments zero ∷ waiting) = 41 ∷ end_text logic waiting
end_text logic (Arguments (suc n) ∷ waiting) = 44 ∷ []
end_text logic (Second operator d ∷ waiting) = operator_before (operator_text logic operator) []
end_text logic (Close ∷ waiting) = 41 ∷ end_text logic waiting

-- what waits then
abbrev pub end_waiting : List Waiting → List Waiting
end_waiting [] = []
end_waiting (Arguments zero ∷ waiting) = end_waiting waiting
end_waiting (Arguments (suc n) ∷ waiting) = Arguments n ∷ waiting
end_waiting (Second operator d ∷ waiting) = Close ∷ waiting
end_waiting (Close ∷ waiting) = end_waiting waiting

-- how many quantifiers are around the part that comes then, where d were around the last one
abbrev pub end_depth : ℕ → List Waiting → ℕ
end_depth d [] = d
end_depth d (Arguments zero ∷ waiting) = end_depth d waiting
end_depth d (Arguments (suc n) ∷ waiting) = d
end_depth d (Second operator e ∷ waiting) = e
end_depth d (Close ∷ waiting) = end_depth d waiting

-- behind a name with n arguments: the parenthesis that opens, where there are any
abbrev pub name_end_text : Logic → ℕ → List Waiting → List ℕ
name_end_text logic zero waiting = end_text logic waiting
name_end_text logic (suc n) waiting = 40 ∷ []

-- what waits then
abbrev pub name_end_waiting : ℕ → List Waiting → List Waiting
name_end_waiting zero waiting = end_waiting waiting
name_end_waiting (suc n) waiting = Arguments n ∷ waiting

-- how many quantifiers are around what comes then
abbrev pub name_end_depth : ℕ → ℕ → List Waiting → ℕ
name_end_depth zero d waiting = end_depth d waiting
name_end_depth (suc n) d waiting = d

-- behind the text of one node
abbrev pub behind_text : Logic → Node → List Waiting → List ℕ
behind_text logic (True p) waiting = end_text logic waiting
behind_text logic (False p) waiting = end_text logic waiting
behind_text logic (Atom positive f n) waiting = name_end_text logic n waiting
behind_text logic (And p) waiting = []
behind_text logic (Or p) waiting = []
behind_text logic Implies waiting = []
behind_text logic ForAll waiting = []
behind_text logic Exists waiting = []
behind_text logic (Inside c) waiting = name_end_text logic (arguments_of c) waiting

-- what waits then
abbrev pub behind_waiting : Node → ℕ → List Waiting → List Waiting
behind_waiting (True p) d waiting = end_waiting waiting
behind_waiting (False p) d waiting = end_waiting waiting
behind_waiting (Atom positive f n) d waiting = name_end_waiting n waiting
behind_waiting (And p) d waiting = Second (Conjunction p) d ∷ waiting
behind_waiting (Or p) d waiting = Second (Disjunction p) d ∷ waiting
behind_waiting Implies d waiting = Second Implication d ∷ waiting
behind_waiting ForAll d waiting = waiting
behind_waiting Exists d waiting = waiting
behind_waiting (Inside c) d waiting = name_end_waiting (arguments_of c) waiting

-- how many quantifiers are around what comes then
abbrev pub behind_depth : Node → ℕ → List Waiting → ℕ
behind_depth (True p) d waiting = end_depth d waiting
behind_depth (False p) d waiting = end_depth d waiting
behind_depth (Atom positive f n) d waiting = name_end_depth n d waiting
behind_depth (And p) d waiting = d
behind_depth (Or p) d waiting = d
behind_depth Implies d waiting = d
behind_depth ForAll d waiting = deeper d
behind_depth Exists d waiting = deeper d
behind_depth (Inside c) d waiting = name_end_depth (arguments_of c) d waiting

-- the text of the nodes that are left, the first of them under d quantifiers
abbrev pub nodes_text : Style → Logic → ℕ → List Waiting → List Node → List ℕ
nodes_text style logic d waiting [] = []
nodes_text style logic d waiting (n ∷ ns) =
    node_text style logic d n ++ (behind_text logic n waiting ++ nodes_text style logic (behind_depth n d waiting) (behind_waiting n d waiting) ns)
