-- The fold keeps whether each cell so far is empty.
use Rattle.std.proofs.Common.{rules, ◌≡◌, Bool, true, List, [], ◌∷◌, ◌∙◌}
use mathlib.Core.Bool.{◌&&◌, and_assoc}
use Rattle.std.specs.List.{fold, list_all}
use Rattle.std.proofs.lemmas.Iterator.{YieldsList-from_slice}
use Rattle.std.proofs.lemmas.Iterator.Consumers.{fold_from_yields_List}
use Rattle.station.specs.declared.Cells.{Cells}
use Rattle.form.specs.Form.{empty_cells}
use Rattle.form.proofs.are_all_empty.Goals as goal

so_far : (b : Bool) (cs : List Cells) → fold (λ empty c. empty && empty_cells c) b cs ≡ (b && list_all empty_cells cs)
so_far b [] = search rules
so_far b (c ∷ cs) = so_far (b && empty_cells c) cs ∙ and_assoc b (empty_cells c) (list_all empty_cells cs)

pub returns : goal.returns
returns c =
    fold_from_yields_List _ (λ empty c. empty && empty_cells c) true _ c.fold.ensures.ran (YieldsList-from_slice _ c.iter.ensures.rest) (λ a x b q called. search rules)
    ∙ so_far true c.args.all.now
