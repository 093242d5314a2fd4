use Rattle.macs_headline.proofs.Answered.{answers-are-held, delivered-below, given-once, moments-are-histories}
use Rattle.macs_headline.proofs.Answered.{never-ok-again, written-below, written-once}
use Rattle.macs_headline.proofs.Changing.{is-first-configuration}
use Rattle.macs_headline.proofs.Commands.{commands-kept}
use Rattle.macs_headline.proofs.Configurations.{configuration-is}
use Rattle.macs_headline.proofs.Deliveries.{deliveries-are-verified, others-are-bare}
use Rattle.macs_headline.proofs.FormatsOnce.{formats-once, refused-by-history}
use Rattle.macs_headline.proofs.FoundOnce.{finds-one}
use Rattle.macs_headline.proofs.HandedIn.{under-way-was-given}
use Rattle.macs_headline.proofs.Identities.{identity-was-given}
use Rattle.macs_headline.proofs.Logs.{nothing-forgotten}
use Rattle.macs_headline.proofs.Numbers.{begin-as-asked, given-apart, given-below, ok-apart, skips-few}
use Rattle.macs_headline.proofs.Numbers.{skips-few-received, used-below, used-once, used-once-at-end}
use Rattle.macs_headline.proofs.Older.{editions-rise}
use Rattle.macs_headline.proofs.Openings.{nothing-changes, refused-for-disk-or-blank, refused-for-disk-or-spent}
use Rattle.macs_headline.proofs.Openings.{spent-are-last}
use Rattle.macs_headline.proofs.Ranges.{frames-are-standard, of-its-edition}
use Rattle.macs_headline.proofs.laws.headline.Goals as goal

pub returns-clause-nothing_forgotten : goal.returns-clause-nothing_forgotten
returns-clause-nothing_forgotten c = nothing-forgotten

pub returns-clause-moments_are_histories : goal.returns-clause-moments_are_histories
returns-clause-moments_are_histories c = moments-are-histories

pub returns-clause-of_its_edition : goal.returns-clause-of_its_edition
returns-clause-of_its_edition c = of-its-edition

pub returns-clause-editions_rise : goal.returns-clause-editions_rise
returns-clause-editions_rise c = editions-rise

pub returns-clause-given_apart : goal.returns-clause-given_apart
returns-clause-given_apart c = given-apart

pub returns-clause-ok_apart : goal.returns-clause-ok_apart
returns-clause-ok_apart c = ok-apart

pub returns-clause-written_below : goal.returns-clause-written_below
returns-clause-written_below c = written-below

pub returns-clause-delivered_below : goal.returns-clause-delivered_below
returns-clause-delivered_below c = delivered-below

pub returns-clause-skips_few_received : goal.returns-clause-skips_few_received
returns-clause-skips_few_received c = skips-few-received

pub returns-clause-used_once : goal.returns-clause-used_once
returns-clause-used_once c = used-once

pub returns-clause-used_once_at_end : goal.returns-clause-used_once_at_end
returns-clause-used_once_at_end c = used-once-at-end

pub returns-clause-given_once : goal.returns-clause-given_once
returns-clause-given_once c = given-once

pub returns-clause-never_ok_again : goal.returns-clause-never_ok_again
returns-clause-never_ok_again c = never-ok-again

pub returns-clause-used_below : goal.returns-clause-used_below
returns-clause-used_below c = used-below

pub returns-clause-given_below : goal.returns-clause-given_below
returns-clause-given_below c = given-below

pub returns-clause-skips_few : goal.returns-clause-skips_few
returns-clause-skips_few c = skips-few

pub returns-clause-begin_as_asked : goal.returns-clause-begin_as_asked
returns-clause-begin_as_asked c = begin-as-asked

pub returns-clause-commands_kept : goal.returns-clause-commands_kept
returns-clause-commands_kept c = commands-kept

pub returns-clause-under_way_was_given : goal.returns-clause-under_way_was_given
returns-clause-under_way_was_given c = under-way-was-given

pub returns-clause-finds_one : goal.returns-clause-finds_one
returns-clause-finds_one c = finds-one

pub returns-clause-configuration_is : goal.returns-clause-configuration_is
returns-clause-configuration_is c = configuration-is

pub returns-clause-first_configuration : goal.returns-clause-first_configuration
returns-clause-first_configuration c = is-first-configuration

pub returns-clause-frames_are_standard : goal.returns-clause-frames_are_standard
returns-clause-frames_are_standard c = frames-are-standard

pub returns-clause-deliveries_are_verified : goal.returns-clause-deliveries_are_verified
returns-clause-deliveries_are_verified c = deliveries-are-verified

pub returns-clause-answers_are_held : goal.returns-clause-answers_are_held
returns-clause-answers_are_held c = answers-are-held

pub returns-clause-written_once : goal.returns-clause-written_once
returns-clause-written_once c = written-once

pub returns-clause-others_are_bare : goal.returns-clause-others_are_bare
returns-clause-others_are_bare c = others-are-bare

pub returns-clause-refused_for_disk_or_spent : goal.returns-clause-refused_for_disk_or_spent
returns-clause-refused_for_disk_or_spent c = refused-for-disk-or-spent

pub returns-clause-refused_for_disk_or_blank : goal.returns-clause-refused_for_disk_or_blank
returns-clause-refused_for_disk_or_blank c = refused-for-disk-or-blank

pub returns-clause-formats_once : goal.returns-clause-formats_once
returns-clause-formats_once c = formats-once

pub returns-clause-refused_by_history : goal.returns-clause-refused_by_history
returns-clause-refused_by_history c = refused-by-history

pub returns-clause-nothing_changes : goal.returns-clause-nothing_changes
returns-clause-nothing_changes c = nothing-changes

pub returns-clause-identity_was_given : goal.returns-clause-identity_was_given
returns-clause-identity_was_given c = identity-was-given

pub returns-clause-spent_are_last : goal.returns-clause-spent_are_last
returns-clause-spent_are_last c = spent-are-last
