-- Values that are all zero, and how the questions answer them.
use Rattle.std.proofs.Common.{ℕ, ◌≡◌, refl, sym, ap, ◌∙◌, false, List, arith, replicate, le-ltb}
use Rattle.primitives.specs.Number.{digits_of, bytes_of}
use Rattle.primitives.specs.Counter.{width_good, half, fits_in, counter_fits, twos, counter_bytes}
use Rattle.primitives.proofs.Rows.{ask_no}
use Rattle.receipt.specs.Settings.{between, csp_good, settings_number_for}
use Rattle.journal.specs.State.{unopened}
use Rattle.journal.specs.declared.state.TakenOver.{TakenOver}
use Rattle.journal.specs.Changing.{change_number}
use Rattle.primitives.specs.Questions.{ask}
use Rattle.journal.specs.Opening.{open_number}
use Rattle.journal.specs.Step.{sound_alone, sound, number_above, details_number_within}
use Rattle.journal.specs.Issuing.{issue_number, issue_number_within}
use Rattle.journal.specs.Preparing.{prepare_number}
use Rattle.journal.specs.Parts.{ready, handed_back, check_steps}
use Rattle.journal.specs.declared.state.State.{State}
use Rattle.journal.proofs.PartSteps.{check_six}
use Rattle.device.specs.Layout.{names_bytes, register_bytes, figures_bytes, state_bytes}
use Rattle.device.specs.Details.{no_details}
use Rattle.device.specs.Laws.{UnopenedIsZero, NoSettingsGetOne, UnopenedGetsSix, UnknownKindGetsSeven}

pub unopened_is_zero : UnopenedIsZero
unfolding state_bytes register_bytes names_bytes figures_bytes unopened digits_of bytes_of counter_bytes counter_fits fits_in half width_good twos
unopened_is_zero = refl

csp_bad : csp_good (replicate 3 0) ≡ false
unfolding csp_good between
csp_bad = refl

pub no_settings_get_one : NoSettingsGetOne
unfolding open_number settings_number_for
no_settings_get_one shared n room = ask_no 1 _ csp_bad

unopened_unsound : sound_alone unopened ≡ false
unfolding sound_alone unopened
unopened_unsound = rw csp_bad

-- what a refused check hands back, by its parts
pub handed_is : (m i : ℕ) (st : State) → record { number = m; index = i; state = st } ≡ handed_back m i st
unfolding handed_back
handed_is m i st = refl

-- a check from it
pub unopened_checked : (j : List ℕ) (n : ℕ) → check_steps unopened j n ≡ record { number = 6; index = 0; state = unopened }
unfolding ready sound
unopened_checked j n = check_six unopened j n (rw unopened_unsound) ∙ sym (handed_is 6 0 unopened)

pub unopened_gets_six : UnopenedGetsSix
unfolding issue_number_within prepare_number change_number sound ask
unopened_gets_six d sig serial room =
    (rw unopened_unsound, rw unopened_unsound, rw unopened_unsound, λ j n. ap (λ (x : TakenOver). x.number) (unopened_checked j n))

pub unknown_kind_gets_seven : UnknownKindGetsSeven
unfolding details_number_within number_above no_details ask
unknown_kind_gets_seven st rest = rw (le-ltb st.last 0 (omega arith))

-- a receipt without a number: 7, or 6 if the state is not sound
pub no_details_number : (st : State) (sig : List ℕ) (room : ℕ) → issue_number st no_details sig room ≡ ask (sound st room) 6 7
unfolding issue_number_within
no_details_number st sig room = ap (ask (sound st room) 6) (unknown_kind_gets_seven st _)
