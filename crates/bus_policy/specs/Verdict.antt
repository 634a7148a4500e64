-- Who may put events on a bus: the verdict of a policy's statements for an asker. The rules are those of resource-based policies in the
-- Amazon EventBridge User Guide and the AWS IAM User Guide, with the differences that docs/CLAIMS.md lists.
use Rattle.std.specs.Prelude.{◌≡◌, ◌⊎◌, ℕ, ◌+◌, List, [], ◌∷◌, ◌++◌, Option, Some, None, codes, if◌then◌else◌, IsTrue}
use Rattle.std.specs.Fmt.{decimal}
use Rattle.std.specs.Str.{bytes_eq}
use Rattle.json_text.specs.Tree.{Tree, null, truth, number, text, list, object, Items, no_items, item, Members, no_members, member}
use Rattle.leaf_match.specs.Piece.{Fits}
use Rattle.leaf_match.specs.Like.{like_pieces}
use Rattle.event_shape.specs.Names.{is_account, owner, bus_arn}
use Rattle.json_text.specs.Access.{IsTextThat, member_of}
use Rattle.bus_policy.specs.Parts.{has_effect, root_arn, statements_of}

-- Who asks to put which event on which bus, each by its text; the bus by its name.
-- Shown by: tables bus_policy.rows: source_and_detail_type_have_to_fit.
pub record Asker : Type 0 where
  pub account : List ℕ
  pub bus : List ℕ
  pub source : List ℕ
  pub detail_type : List ℕ

-- Allowed, denied by the statement of a name, or not allowed.
-- Shown by: tables bus_policy.rows: the_first_deny_is_reported.
pub data Verdict : Type 0 where
  allowed : Verdict
  denied_by : List ℕ → Verdict
  no_allow : Verdict

abbrev pub SomeItem : (List ℕ → Type 0) → Items → Type 0
SomeItem P no_items = ⊥
SomeItem P (item t items) = IsTextThat P t ⊎ SomeItem P items

-- the value is such a text, or a list with one
abbrev pub SomeText : (List ℕ → Type 0) → Tree → Type 0
SomeText P (text t) = P t
SomeText P (list items) = SomeItem P items
SomeText P null = ⊥
SomeText P (truth b) = ⊥
SomeText P (number spelling) = ⊥
SomeText P (object inside) = ⊥

-- the member is there, and has such a text
abbrev pub HasText : (List ℕ → Type 0) → Option Tree → Type 0
HasText P None = ⊥
HasText P (Some t) = SomeText P t

-- A word names an account: `*`, the account's twelve digits, or its root's ARN.
-- Shown by: tables bus_policy.rows: what_is_not_known_applies_to_nothing.
abbrev pub Names : List ℕ → List ℕ → Type 0
Names account word = (word ≡ codes "*") ⊎ (IsTrue (is_account account) × ((word ≡ account) ⊎ (word ≡ root_arn account)))

-- The Principal is `"*"`, or its member `AWS` has a word that names the account.
-- Shown by: tables bus_policy.rows: one_of_a_list_is_enough.
abbrev pub IsPrincipal : List ℕ → Option Tree → Type 0
IsPrincipal account None = ⊥
IsPrincipal account (Some (text t)) = t ≡ codes "*"
IsPrincipal account (Some (object inside)) = HasText (Names account) (member_of (codes "AWS") (object inside))
IsPrincipal account (Some null) = ⊥
IsPrincipal account (Some (truth b)) = ⊥
IsPrincipal account (Some (number spelling)) = ⊥
IsPrincipal account (Some (list items)) = ⊥

-- An action word that means PutEvents: `*`, `events:*` or `events:PutEvents`. `events:Put*` does not (this project's own rule: no other
-- wildcard is known).
-- Shown by: tables bus_policy.rows: what_is_not_known_applies_to_nothing.
abbrev pub IsPutEvents : List ℕ → Type 0
IsPutEvents word = (word ≡ codes "*") ⊎ (word ≡ codes "events:*") ⊎ (word ≡ codes "events:PutEvents")

-- A resource word that means the bus: `*`, or the bus's ARN.
-- Shown by: tables bus_policy.rows: what_is_not_known_applies_to_nothing.
abbrev pub IsBus : List ℕ → List ℕ → Type 0
IsBus bus word = (word ≡ codes "*") ⊎ (word ≡ bus_arn bus)

-- By StringEquals the text is the same; by StringLike leaf_match's `Fits` holds of its `like_pieces`.
-- Shown by: tables bus_policy.rows: source_and_detail_type_have_to_fit.
abbrev pub FitsBy : List ℕ → List ℕ → List ℕ → Type 0
FitsBy operator wanted asked =
    ((operator ≡ codes "StringEquals") × (wanted ≡ asked)) ⊎ ((operator ≡ codes "StringLike") × Fits (like_pieces wanted) asked)

-- the asker's text for a key; there are two keys
abbrev pub asked_for : Asker → List ℕ → Option (List ℕ)
asked_for asker key =
    if bytes_eq key (codes "events:source") then Some asker.source else
    if bytes_eq key (codes "events:detail-type") then Some asker.detail_type else None

-- one of the texts fits what is asked
abbrev pub KeyHolds : List ℕ → Option (List ℕ) → Tree → Type 0
KeyHolds operator None t = ⊥
KeyHolds operator (Some asked) t = SomeText (λ wanted. FitsBy operator wanted asked) t

abbrev pub EachKey : Asker → List ℕ → Members → Type 0
EachKey asker operator no_members = Unit {0}
EachKey asker operator (member key t members) = KeyHolds operator (asked_for asker key) t × EachKey asker operator members

abbrev pub OperatorHolds : Asker → List ℕ → Tree → Type 0
OperatorHolds asker operator (object inside) = EachKey asker operator inside
OperatorHolds asker operator null = ⊥
OperatorHolds asker operator (truth b) = ⊥
OperatorHolds asker operator (number spelling) = ⊥
OperatorHolds asker operator (text t) = ⊥
OperatorHolds asker operator (list items) = ⊥

abbrev pub EachOperator : Asker → Members → Type 0
EachOperator asker no_members = Unit {0}
EachOperator asker (member operator t members) = OperatorHolds asker operator t × EachOperator asker members

-- Every operator holds for each of its keys: one of the key's texts fits the asker's. A statement without a Condition asks for nothing
-- here.
-- Shown by: tables bus_policy.rows: each_key_of_an_operator_has_to_hold.
abbrev pub ConditionHolds : Asker → Option Tree → Type 0
ConditionHolds asker None = Unit {0}
ConditionHolds asker (Some (object inside)) = EachOperator asker inside
ConditionHolds asker (Some null) = ⊥
ConditionHolds asker (Some (truth b)) = ⊥
ConditionHolds asker (Some (number spelling)) = ⊥
ConditionHolds asker (Some (text t)) = ⊥
ConditionHolds asker (Some (list items)) = ⊥

-- Principal, action, resource and condition of the statement are about the asker.
-- Shown by: tables bus_policy.rows: a_policy_of_the_guides_form_is_decided_by_all_its_statements.
pub record Applies (asker : Asker) (statement : Tree) : Type 0 where
  pub principal : IsPrincipal asker.account (member_of (codes "Principal") statement)
  pub action : HasText IsPutEvents (member_of (codes "Action") statement)
  pub resource : HasText (IsBus asker.bus) (member_of (codes "Resource") statement)
  pub condition : ConditionHolds asker (member_of (codes "Condition") statement)

abbrev pub Denies : Asker → Tree → Type 0
Denies asker statement = IsTrue (has_effect (codes "Deny") statement) × Applies asker statement

abbrev pub Allows : Asker → Tree → Type 0
Allows asker statement = IsTrue (has_effect (codes "Allow") statement) × Applies asker statement

abbrev pub NoneDenies : Asker → Items → Type 0
NoneDenies asker no_items = Unit {0}
NoneDenies asker (item statement statements) = (¬ Denies asker statement) × NoneDenies asker statements

abbrev pub SomeAllows : Asker → Items → Type 0
SomeAllows asker no_items = ⊥
SomeAllows asker (item statement statements) = Allows asker statement ⊎ SomeAllows asker statements

-- a statement's name: its Sid, or `#` and its place, counted from 1 (this project's own rule)
abbrev pub name_by : ℕ → Option Tree → List ℕ
name_by place None = codes "#" ++ decimal place
name_by place (Some (text sid)) = sid
name_by place (Some null) = codes "#" ++ decimal place
name_by place (Some (truth b)) = codes "#" ++ decimal place
name_by place (Some (number spelling)) = codes "#" ++ decimal place
name_by place (Some (list items)) = codes "#" ++ decimal place
name_by place (Some (object inside)) = codes "#" ++ decimal place

-- A statement's name: its Sid, or `#` and its place from 1 (this project's own rule).
-- Shown by: tables bus_policy.rows: names_follow_the_places_after_a_removal.
abbrev pub name_of : ℕ → Tree → List ℕ
name_of place statement = name_by place (member_of (codes "Sid") statement)

-- the names of all statements; the first of them has this place
abbrev pub names_from : ℕ → Items → List (List ℕ)
names_from place no_items = []
names_from place (item statement statements) = name_of place statement ∷ names_from (place + 1) statements

-- The first statement that denies has this name; the first of all has this place.
abbrev pub FirstDenies : Asker → ℕ → Items → List ℕ → Type 0
FirstDenies asker place no_items name = ⊥
FirstDenies asker place (item statement statements) name =
    (Denies asker statement × (name ≡ name_of place statement))
    ⊎ ((¬ Denies asker statement) × FirstDenies asker (place + 1) statements name)

-- the asker is the owner, or some Allow applies
abbrev pub IsOwnerOrAllowed : Asker → Items → Type 0
IsOwnerOrAllowed asker statements = (asker.account ≡ owner) ⊎ SomeAllows asker statements

-- The verdict of statements, in order. The first Deny that applies denies by its name. Else the owner is allowed, and so is each account
-- that an applying Allow names. Else nobody is.
-- Shown by: tables bus_policy.rows: one_account_is_allowed_but_for_one_source.
abbrev pub IsVerdictOf : Items → Asker → Verdict → Type 0
IsVerdictOf statements asker (denied_by name) = FirstDenies asker 1 statements name
IsVerdictOf statements asker allowed = NoneDenies asker statements × IsOwnerOrAllowed asker statements
IsVerdictOf statements asker no_allow = NoneDenies asker statements × (¬ IsOwnerOrAllowed asker statements)

-- The verdict of a policy by its JSON value, as it was given or as it is stored.
-- Shown by: tables bus_policy.rows: a_deny_binds_the_owner_too.
abbrev pub IsVerdict : Tree → Asker → Verdict → Type 0
IsVerdict policy asker verdict = IsVerdictOf (statements_of policy) asker verdict

-- The verdict of a bus, which has a policy or none. Without one it has no statement.
-- Shown by: tables bus_policy.rows: a_bus_without_a_policy_is_the_owners.
abbrev pub IsBusVerdict : Option Tree → Asker → Verdict → Type 0
IsBusVerdict None asker verdict = IsVerdictOf no_items asker verdict
IsBusVerdict (Some policy) asker verdict = IsVerdict policy asker verdict
