mod SimpleApps
