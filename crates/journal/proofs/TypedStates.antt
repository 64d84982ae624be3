-- What the code's types say of the state of a register that holds pairs.
use Rattle.std.proofs.Common.{ℕ, zero, suc, ◌-◌, ◌^◌, ◌≤◌, ◌<◌, ◌≡◌, refl, sym, ap, ◌∙◌, subst, true, List, [], ◌∷◌, ◌++◌, arith, lt-ltb, length, get_or, replicate}
use lib.Signed.{mag}
use Rattle.primitives.specs.Bytes.{AllBytes}
use Rattle.primitives.specs.Counter.{fits_in}
use Rattle.primitives.proofs.ByteLists.{bytes_replicate}
use Rattle.primitives.proofs.Twos.{width_true, half_small, fits_below, fits_64, counted as counted-in}
use Rattle.receipt.specs.declared.settings.Name.{Name}
use Rattle.journal.specs.State.{no_name, used, in_eight, TypedName, TypedState}
use Rattle.journal.specs.Valid.{Owner, Pair, all_placed, serials_of, Placed}
use Rattle.journal.specs.Calls.{Register}
use Rattle.journal.specs.declared.state.State.{State}
use Rattle.journal.proofs.Serials.{length_eight}
use Rattle.journal.proofs.Placing.{Core, start_core, step_core, run_core, AllRight, Names, length_serials, names_length}
use Rattle.journal.proofs.Placing as placing
use Rattle.journal.proofs.Registers.{Holds, holds_open, open_eight, run_zeroed}
use Rattle.journal.proofs.AcceptedIsWritten.{holds_sound}

-- ---- serials

none_typed : TypedName no_name
none_typed = record { long = refl; bytes = bytes_replicate 32 (omega arith); small = omega arith }

pub zeros_typed : (k i : ℕ) → TypedName (get_or (replicate k no_name) i no_name)
zeros_typed zero i = none_typed
zeros_typed (suc k) zero = none_typed
zeros_typed (suc k) (suc i) = zeros_typed k i

names_typed : (us : List Name) (ps : List Pair) (k i : ℕ) → Names us ps → TypedName (get_or (serials_of ps ++ replicate k no_name) i no_name)
unfolding serials_of
names_typed us [] k i placing.none = zeros_typed k i
names_typed us (p ∷ ps) k zero (placing.more b ns) = b.typed
names_typed us (p ∷ ps) k (suc i) (placing.more b ns) = names_typed (us ++ (p.serial ∷ [])) ps k i ns

serials_typed : (ps : List Pair) (i : ℕ) → Names [] ps → TypedName (get_or (in_eight (serials_of ps)) i no_name)
unfolding in_eight
serials_typed ps i ns = names_typed [] ps (8 - length (serials_of ps)) i ns

-- ---- the last number

last_small : (k : List ℕ) (n : ℕ) (c : Core) (xs : List Placed) → AllRight k n c xs → c.last < 4294967296 → (run_core n c xs).last < 4294967296
unfolding run_core step_core
last_small k n c [] placing.none h = h
last_small k n c (x ∷ xs) (placing.more r rs) h = last_small k n (step_core n c x) xs rs r.typed.fields.number

start_small : (o : Owner) → (start_core o).last < 4294967296
unfolding start_core
start_small o = omega arith

pub holds_typed : {k : List ℕ} {n : ℕ} {o : Owner} {g : Register} (ps : List Pair) (p : Pair) → length k ≡ 32 → AllBytes k → length g.buf < 18446744073709551616
    → Holds k n o g (ps ++ (p ∷ [])) → TypedState g.state
holds_typed {k} {n} {o} {g} ps p kl kb room h =
    let st = g.state in
    let q = holds_open ps p h in
    let b = q.at.base in
    let s = holds_sound k n o g ps p h in
    let qs = ps ++ (p ∷ []) in
    let ns = h.work.names in
    let z : st.serials ≡ in_eight (serials_of qs) = ap (λ (x : State). x.serials) h.state ∙ (run_zeroed k n o ps p h.work ∙ ap in_eight (ap (λ (x : State). used x.serials) (sym h.state) ∙ b.serials)) in
    let few : length (serials_of qs) ≤ 8 = omega (arith, length_serials qs, names_length [] qs ns h.work.some) in
    let last : st.last < 4294967296 =
    subst (λ (c : Core). c.last < 4294967296) (sym b.core) (last_small k n (start_core o) (all_placed o qs) h.work.right (start_small o)) in
    let f = counted-in st.width st.counter s.counter in
    let fits : fits_in 8 st.counter ≡ true =
    fits_64 st.counter ∙ lt-ltb (mag st.counter) (2 ^ 63) (omega (arith, fits_below st.width st.counter f.fits, half_small st.width (width_true st.width f.width).most)) in
    let e = open_eight q in
    record {
      csp = ap length b.csp ∙ h.work.good.typed_csp;
      id = subst TypedName (sym b.id) h.work.good.typed_id;
      eight = ap length z ∙ length_eight (serials_of qs) few;
      serials = λ i l. subst (λ (x : List Name). TypedName (get_or x i no_name)) (sym z) (serials_typed qs i ns);
      width = omega (arith, (width_true st.width s.width).most);
      key_length = ap length b.key ∙ kl;
      key_bytes = subst AllBytes (sym b.key) kb;
      counter = fits;
      last = last;
      issued = omega (arith, s.issued);
      chain = e.long;
      chain_bytes = e.bytes;
      in_journal = omega (arith, h.room);
      since = omega (arith, s.since, s.issued);
      place = omega (arith, s.place, h.room);
    }
