-- The tree of each kind of value: `tree_of_list`, `tree_of_object` and the others.
use Rattle.std.proofs.Common.{◌≡◌, ℕ, Bool, List, ap, sym, ◌∙◌}
use Rattle.json_text.specs.{Tree.Tree, Tree.null, Tree.truth, Tree.number, Tree.text, Tree.list, Tree.object, Tree.items_of, Tree.members_of}
use Rattle.json_text.specs.{View.tree_of, View.view_step, View.trees_of, View.pairs_of, declared.value.Json.fold-roll-Json, declared.value.Json.TheOpen.Json-F}
use Rattle.json_text.specs.declared.value.Json.TheVariants.{Null, Truth, Num, Str, List as list_value, Obj, rolls-Null, rolls-Truth, rolls-Num, rolls-Str}
use Rattle.json_text.specs.declared.value.Json.TheVariants.{rolls-List, rolls-Obj}

pub tree_of_list : (v : _) → tree_of (list_value v) ≡ list (items_of (trees_of v.items))
tree_of_list v = ap tree_of (sym (rolls-List v)) ∙ fold-roll-Json Tree view_step (Json-F.List v)

pub tree_of_object : (v : _) → tree_of (Obj v) ≡ object (members_of (pairs_of v.items))
tree_of_object v = ap tree_of (sym (rolls-Obj v)) ∙ fold-roll-Json Tree view_step (Json-F.Obj v)

pub tree_of_null : tree_of Null ≡ null
tree_of_null = ap tree_of (sym rolls-Null) ∙ fold-roll-Json Tree view_step Json-F.Null

pub tree_of_truth : (b : Bool) → tree_of (Truth b) ≡ truth b
tree_of_truth b = ap tree_of (sym (rolls-Truth b)) ∙ fold-roll-Json Tree view_step (Json-F.Truth b)

pub tree_of_number : (spelling : List ℕ) → tree_of (Num spelling) ≡ number spelling
tree_of_number spelling = ap tree_of (sym (rolls-Num spelling)) ∙ fold-roll-Json Tree view_step (Json-F.Num spelling)

pub tree_of_text : (t : List ℕ) → tree_of (Str t) ≡ text t
tree_of_text t = ap tree_of (sym (rolls-Str t)) ∙ fold-roll-Json Tree view_step (Json-F.Str t)
