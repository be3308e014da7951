pub mod ModelJson
