-- What replies show of archives. The members and their order are those of the Amazon EventBridge API Reference; that `SizeBytes` counts the
-- bytes of the events' texts, that counts are those of a moment, and that an archive is always enabled are this project's own rules.
use Rattle.std.specs.Prelude.{ℕ, Bool, true, ◌&&◌, List, [], ◌∷◌, ◌++◌, filter, flat_map, length, Option, Some, None, codes, decimal}
use Rattle.std.specs.Str.{bytes_eq}
use Rattle.json_text.specs.Tree.{Tree, number, text, object, members_of}
use Rattle.event_shape.specs.Names.{bus_arn, archive_arn}
use Rattle.name_rows.specs.Rows.{named}
use Rattle.archive_keep.specs.Archive.{Archive, retained_at, size_of}
use Rattle.archive_keep.specs.Archives.{name_of}
use Rattle.rule_table.specs.RuleSet.{Archive as Row, RuleSet, archive_at}
use Rattle.api_replies.specs.declared.kind.Kind.TheVariants as kind
use Rattle.api_replies.specs.declared.cause.Cause.TheVariants as cause
use Rattle.api_replies.specs.Reply.{Reply, served, refused}
use Rattle.config_views.specs.Views.{listing, has_prefix}

-- The state of each archive, `ENABLED`.
-- Shown by: archives.
abbrev pub archive_state : List ℕ
archive_state = codes "ENABLED"

-- The reply to a CreateArchive or an UpdateArchive: the archive's ARN, the moment of its creation, and its state.
-- Shown by: archives.
abbrev pub archive_reply : List ℕ → ℕ → Reply
archive_reply name created = served (
    (codes "ArchiveArn", text (archive_arn name))
    ∷ (codes "CreationTime", number (decimal created))
    ∷ (codes "State", text archive_state)
    ∷ [])

-- An archive's pattern as the member `EventPattern`, its text as it was given, if the archive has one.
-- Shown by: archives.
abbrev pub pattern_member : Option (List ℕ) → List (List ℕ × Tree)
pattern_member None = []
pattern_member (Some pattern) = (codes "EventPattern", text pattern) ∷ []

-- The name of an archive, and its bus's ARN.
-- Shown by: archives.
abbrev pub source_members : Row → List (List ℕ × Tree)
source_members row = (codes "ArchiveName", text row.name) ∷ (codes "EventSourceArn", text (bus_arn row.bus)) ∷ []

-- What an archive keeps at a moment: its state, its days, the bytes and the number of the events that it retains then, and the moment of its
-- creation.
-- Shown by: archives; an_archive_counts_what_is_gone.edit.
abbrev pub keeping_members : ℕ → Archive → List (List ℕ × Tree)
keeping_members moment archive =
    (codes "State", text archive_state)
    ∷ (codes "RetentionDays", number (decimal archive.days))
    ∷ (codes "SizeBytes", number (decimal (size_of (retained_at moment archive))))
    ∷ (codes "EventCount", number (decimal (length (retained_at moment archive))))
    ∷ (codes "CreationTime", number (decimal archive.created))
    ∷ []

-- What a DescribeArchive shows: `ArchiveArn`, `ArchiveName`, `EventSourceArn`, `EventPattern` if it has one, and what it keeps.
-- Shown by: archives.
abbrev pub archive_members : ℕ → Row → Archive → List (List ℕ × Tree)
archive_members moment row archive =
    (codes "ArchiveArn", text (archive_arn row.name)) ∷ (source_members row ++ (pattern_member row.pattern ++ keeping_members moment archive))

-- What a ListArchives shows of an archive: `ArchiveName`, `EventSourceArn`, and what it keeps.
-- Shown by: archives.
abbrev pub listed_members : ℕ → Row → Archive → List (List ℕ × Tree)
listed_members moment row archive = source_members row ++ keeping_members moment archive

-- a reply about the archive of this name, which may be missing
abbrev pub on_archive : List ℕ → (Row → Archive → Reply) → Option Row → Option Archive → Reply
on_archive name show (Some row) (Some archive) = show row archive
on_archive name show _ _ = refused (cause.NotFound kind.Archive name)

-- The reply to a DescribeArchive at a moment. A missing archive is refused. The rule set and the archives of tables have the same names
-- (router_core `IsConsistent`).
-- Shown by: archives.
abbrev pub described_archive : List ℕ → ℕ → RuleSet → List Archive → Reply
described_archive name moment set archives =
    on_archive name (λ row archive. served (archive_members moment row archive)) (archive_at name set) (named name_of name archives)

-- no text is given, or this one
abbrev pub is_given : Option (List ℕ) → List ℕ → Bool
is_given None t = true
is_given (Some given) t = bytes_eq given t

-- The archive's name has the prefix, its bus's ARN is the source, and its state is the one that is asked for, as far as these are given.
-- Shown by: archives.
abbrev pub is_listed : (prefix source state : Option (List ℕ)) → Row → Bool
is_listed prefix source state row = has_prefix prefix row.name && (is_given source (bus_arn row.bus) && is_given state archive_state)

-- the item of an archive, if its events are there
abbrev pub item_of : ℕ → Row → Option Archive → List Tree
item_of moment row None = []
item_of moment row (Some archive) = object (members_of (listed_members moment row archive)) ∷ []

-- The items of the archives that pass, at a moment.
-- Shown by: archives.
abbrev pub archive_items : (prefix source state : Option (List ℕ)) → ℕ → List Archive → List Row → List Tree
archive_items prefix source state moment archives rows =
    flat_map (λ (row : Row). item_of moment row (named name_of row.name archives)) (filter (is_listed prefix source state) rows)

-- The reply to a ListArchives at a moment.
-- Shown by: archives.
abbrev pub listed_archives : (prefix source state : Option (List ℕ)) → ℕ → RuleSet → List Archive → Reply
listed_archives prefix source state moment set archives =
    listing (codes "Archives") (archive_items prefix source state moment archives set.archives)
