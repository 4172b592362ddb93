-- Facts about the last items of a list.
use Rattle.std.proofs.Common.{◌+◌, ◌∷◌, suc, List, drop, ap, ◌∙◌}
use Rattle.std.proofs.lemmas.List.{drop-drop}
use Rattle.polarised_formulas.specs.References.{IsTail}

module _ {R : Type 0} where
  pub in-front : (x : R) {tail list : List R} → IsTail tail list → IsTail tail (x ∷ list)
  in-front x t = (suc t.0, t.1)

  pub tail-of-tail : {last tail list : List R} → IsTail last tail → IsTail tail list → IsTail last list
  tail-of-tail {last} {tail} {list} t u = (u.0 + t.0, t.1 ∙ ap (drop t.0) u.1 ∙ drop-drop t.0 u.0 list)
