-- Every receipt of a valid journal has an optical line.
use Rattle.std.proofs.Common.{◌≡◌, subst, true, List, [], ◌∷◌, ◌++◌, ℕ}
use Rattle.receipt.specs.Settings.{settings_good, TypedSettings}
use Rattle.receipt.specs.declared.settings.Name.{Name}
use Rattle.receipt.specs.declared.settings.Settings.{Settings}
use Rattle.receipt.specs.declared.entry.Entry.{Entry}
use Rattle.receipt.proofs.ReceiptLines.{form_has_line}
use Rattle.journal.specs.Valid.{Owner, Pair, settings_for, Placed, placed_under, all_placed, GoodOwner, Valid}
use Rattle.journal.specs.Demands.{EveryReceiptHasLine}
use Rattle.journal.proofs.Placing.{Names}
use Rattle.journal.proofs.Placing as placing
use Rattle.journal.proofs.Passing.{typed_for, good_for}
use Rattle.journal.proofs.Accepting.{valid_work}

-- the settings of an entry at a place of all entries are good
pub record GoodPlace (x : Placed) : Type 0 where
  pub typed : TypedSettings x.settings
  pub good : settings_good x.settings ≡ true

data EachPlace : List Placed → Type 0 where
  none : EachPlace []
  more : {x : Placed} {xs : List Placed} → GoodPlace x → EachPlace xs → EachPlace (x ∷ xs)

section_places : (s : Settings) (es : List Entry) (xs : List Placed) → TypedSettings s → settings_good s ≡ true → EachPlace xs → EachPlace (placed_under s es ++ xs)
unfolding placed_under
section_places s [] xs t g h = h
section_places s (e ∷ es) xs t g h = more (record { typed = t; good = g }) (section_places s es xs t g h)

all_places : (o : Owner) (us : List Name) (ps : List Pair) → GoodOwner o → Names us ps → EachPlace (all_placed o ps)
unfolding all_placed
all_places o us [] g placing.none = none
all_places o us (p ∷ ps) g (placing.more b ns) =
    section_places (settings_for o p.serial) p.entries (all_placed o ps) (typed_for o p.serial g b.typed) (good_for o p.serial g b.good)
    (all_places o (us ++ (p.serial ∷ [])) ps g ns)

place_at : (before : List Placed) (x : Placed) (later : List Placed) → EachPlace (before ++ (x ∷ later)) → GoodPlace x
place_at [] x later (more h hs) = h
place_at (y ∷ before) x later (more h hs) = place_at before x later hs

pub valid_place : {j k : List ℕ} {n : ℕ} (v : Valid j k n) (before : List Placed) (x : Placed) (later : List Placed) → all_placed v.owner v.pairs ≡ before ++ (x ∷ later) → GoodPlace x
valid_place v before x later q = place_at before x later (subst EachPlace q (all_places v.owner [] v.pairs v.good (valid_work v).names))

pub every_receipt_has_line : EveryReceiptHasLine
every_receipt_has_line j key n v before x later q =
    let r = v.each before x later q in
    let g = valid_place v before x later q in
    form_has_line x.settings n x.entry g.typed.lengths g.typed.bytes g.good r.typed r.spelled
