-- Which cards and keysets a plan has, found by their numbers.
use Rattle.std.specs.Prelude.{◌≡◌, ℕ, nat_eq, Bool, false, Option, Some, option_map, List, get_or}
use Rattle.std.specs.HashMap.{HashMap, get}
use Rattle.std.specs.HashSet.{HashSet, contains}
use Rattle.ota_core.specs.declared.jobs.Job.{Job}
use Rattle.plan_reader.specs.JobRows.{card_in, is_listed, has_job_number}
use Rattle.plan_reader.specs.declared.plan_index.CardListing.{CardListing}
use Rattle.plan_reader.specs.declared.plans.Plan.{Plan}

-- whether the card of the plan with this number is wide
abbrev pub width_of : Plan → ℕ → Option Bool
width_of plan number = option_map (λ card. card.wide) (card_in plan number)

-- the listing has the keysets that the plan lists of the card with this number
abbrev pub IsListing : Plan → ℕ → CardListing → Type 0
IsListing plan number listing =
    (kvn : ℕ) → get_or listing.kvns kvn false ≡ is_listed plan (record { card = record { 0 = number }; kvn = kvn })

module _ {S : Type 0} where
  -- the map has each card with its width and its keysets
  pub record IsIndexOf (plan : Plan) (listings : HashMap ℕ CardListing S) : Type 0 where
    pub wide : (number : ℕ) → option_map (λ listing. listing.wide) (get nat_eq listings number) ≡ width_of plan number
    pub listed : (number : ℕ) (listing : CardListing) → get nat_eq listings number ≡ Some listing → IsListing plan number listing

  -- the set has the numbers of the jobs
  pub record HasNumbers (numbers : HashSet ℕ S) (jobs : List Job) : Type 0 where
    pub found : (number : ℕ) → contains nat_eq numbers number ≡ has_job_number number jobs
